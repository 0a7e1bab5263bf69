use Rattle.std.proofs.Common.{◌≡◌, ◌/◌, ◌∙◌, sym, subst, slice_index_or, slice_set}
use Rattle.std.proofs.lemmas.List.{get_or_default}
use Rattle.sat_base.specs.Work.{HasMore}
use Rattle.learn_step.specs.Pending.{AreCut, pending}
use Rattle.learn_step.proofs.PendingLemmas.{with_place, more_places, more_cut}
use Rattle.learn_step.proofs.pending.Pending.insert.Goals as goal

-- the word of the place has its bit, and the last word stays the last one
pub invariant_of-self-2 : goal.invariant_of-self-2
invariant_of-self-2 c =
    let old = c.self.inside.words.items in
    let mid = c.reach.new.words.items in
    let place = c.args.place in
    let reach = c.in_ok-reach.ensures in
    let is : slice_index_or mid (place / 64) 0 ≡ c.index_mut.result.now =
    get_or_default mid (place / 64) 0 c.index_mut.result.now reach.reached ∙ sym c.index_mut.ensures.value in
    subst (λ w. AreCut (slice_set mid (place / 64) (with_place w place))) is
    (more_cut old mid place reach.reached reach.same c.ranges.place.fits reach.length c.self.invariant)

-- the bit of the place is set, and no other one changes
pub returns-clause-ok : goal.returns-clause-ok
returns-clause-ok c =
    let old = c.self.inside.words.items in
    let mid = c.reach.new.words.items in
    let place = c.args.place in
    let reach = c.in_ok-reach.ensures in
    let is : slice_index_or mid (place / 64) 0 ≡ c.index_mut.result.now =
    get_or_default mid (place / 64) 0 c.index_mut.result.now reach.reached ∙ sym c.index_mut.ensures.value in
    rw (← c.self.view_is)
    (subst (λ w. HasMore (pending old) (pending (slice_set mid (place / 64) (with_place w place))) place) is
    (more_places old mid place reach.reached reach.same))
