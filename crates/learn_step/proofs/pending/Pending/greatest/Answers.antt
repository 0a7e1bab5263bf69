use Rattle.std.proofs.Common.{◌≡◌, ◌+◌, ◌-◌, ◌*◌, ◌∙◌, refl, sym, arith, slice_index_or}
use Rattle.std.proofs.lemmas.List.{get_or_default}
use Rattle.learn_step.proofs.PendingLemmas.{greatest_place}
use Rattle.learn_step.proofs.pending.Pending.greatest.Goals as goal

-- the last word is not 0
pub lowest_bit-lowest-requires : goal.lowest_bit-lowest-requires
lowest_bit-lowest-requires c =
    let words = c.self.inside.words.items in
    let at = c.len-count.result - 1 in
    let is : slice_index_or words at 0 ≡ c.index.result.now = get_or_default words at 0 c.index.result.now (omega arith) ∙ sym c.index.ensures in
    omega (arith, is, c.self.invariant.ends at (omega arith))

-- the lowest bit of the last word
pub returns : goal.returns
returns c =
    let words = c.self.inside.words.items in
    let at = c.len-count.result - 1 in
    let low = c.lowest_bit-lowest.result in
    let is : slice_index_or words at 0 ≡ c.index.result.now = get_or_default words at 0 c.index.result.now (omega arith) ∙ sym c.index.ensures in
    rw (← c.self.view_is)
    (greatest_place words at low (64 * at + (63 - low)) (omega arith) c.lowest_bit-lowest.ensures.within refl (rw is c.lowest_bit-lowest.ensures.has)
    (λ i lt. rw is (c.lowest_bit-lowest.ensures.lowest i lt)))
