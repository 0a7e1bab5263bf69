use Rattle.std.proofs.Common.{◌≡◌, ℕ, ◌-◌, ◌*◌, ◌/◌, ◌%◌, ◌<◌, List, length, not, get_or, set, ◌∙◌, ap, arith}
use Rattle.std.specs.Arc.{arc_value}
use Rattle.sat_base.specs.Bits.{truths, with_bit, with_truth}
use Rattle.sat_base.proofs.BitLemmas.{length-truths, truths-with_truth}
use Rattle.sat_base.proofs.assign.Assign.flipped.Goals as goal

pub at-requires : goal.at-requires
at-requires c =
    let words = arc_value c.self.inside.words in
    rw c.deref.ensures (omega (arith, length-truths c.self.inside.len words, ap length c.self.view_is, c.self.invariant, c.requires.not_zero, c.requires.in_range))

pub written-requires : goal.written-requires
written-requires c =
    let words = arc_value c.self.inside.words in
    rw c.deref-2.ensures
    (omega (arith, length-truths c.self.inside.len words, ap length c.self.view_is, c.self.invariant, c.requires.not_zero, c.requires.in_range))

-- one bit of its word is written, and the other words stay
pub returns : goal.returns
returns c =
    let words = arc_value c.self.inside.words in
    let at = c.args.var - 1 in
    let len_is : c.self.inside.len ≡ length c.args.self.now = omega (arith, length-truths c.self.inside.len words, ap length c.self.view_is) in
    let within : at < c.self.inside.len = omega (arith, len_is, c.requires.not_zero, c.requires.in_range) in
    let has : at < 64 * length words = omega (arith, within, c.self.invariant) in
    let word_is = c.with_bit-word.ensures
    ∙ ap (λ (w : ℕ). with_bit w (at % 64) (not c.value-value.result)) (c.at.ensures ∙ ap (λ (ws : List ℕ). get_or ws (at / 64) 0) c.deref.ensures) in
    let written : c.in_ok-words.words ≡ with_truth words at (not c.value-value.result) =
    c.in_ok-words.ensures ∙ ap (λ (ws : List ℕ). set ws (at / 64) c.with_bit-word.result) c.deref-2.ensures ∙ ap (set words (at / 64)) word_is in
    ap (truths c.self.inside.len) (c.in_ok-words-2.ensures.ok ∙ written)
    ∙ truths-with_truth words at (not c.value-value.result) has c.self.inside.len within
    ∙ ap (λ l. set l at (not c.value-value.result)) c.self.view_is
    ∙ ap (λ v. set c.args.self.now at (not v)) c.value-value.ensures
