use Rattle.std.proofs.Common.{ℕ, ◌-◌, ◌/◌, ◌%◌, ◌==◌, ◌<◌, List, length, false, get_or, sym, ◌∙◌, ap, arith}
use Rattle.std.specs.Arc.{arc_value}
use Rattle.std.specs.Int.{bit_at}
use Rattle.sat_base.proofs.BitLemmas.{length-truths, get_or-truths}
use Rattle.sat_base.proofs.assign.Assign.value.Goals as goal

pub at-requires : goal.at-requires
at-requires c =
    let words = arc_value c.self.inside.words in
    rw c.deref.ensures (omega (arith, length-truths c.self.inside.len words, ap length c.self.view_is, c.self.invariant, c.requires.not_zero, c.requires.in_range))

pub returns : goal.returns
returns c =
    let words = arc_value c.self.inside.words in
    let at = c.args.var - 1 in
    let within : at < c.self.inside.len =
    omega (arith, length-truths c.self.inside.len words, ap length c.self.view_is, c.requires.not_zero, c.requires.in_range) in
    c.read.ensures ∙ ap (λ (w : ℕ). bit_at w (at % 64) == 1) (c.at.ensures ∙ ap (λ (ws : List ℕ). get_or ws (at / 64) 0) c.deref.ensures)
    ∙ sym (get_or-truths c.self.inside.len words at false within)
    ∙ ap (λ l. get_or l at false) c.self.view_is
