use Rattle.std.proofs.Common.{ℕ, ◌%◌, ◌<◌, ◌==◌, List, length, false, get_or, sym, ◌∙◌, ap, arith}
use Rattle.std.specs.Arc.{arc_value}
use Rattle.std.specs.Int.{bit_at}
use Rattle.sat_base.proofs.BitLemmas.{length-truths, get_or-truths}
use Rattle.sat_base.proofs.assign.Assign.word.Goals as goal

pub at-requires : goal.at-requires
at-requires c =
    let words = arc_value c.self.inside.words in
    rw c.deref.ensures (omega (arith, length-truths c.self.inside.len words, ap length c.self.view_is, c.self.invariant, c.requires))

-- each value is a bit of the word that it is in
pub returns : goal.returns
returns c = λ i same within.
    let words = arc_value c.self.inside.words in
    let word_is = c.at.ensures ∙ ap (λ (ws : List ℕ). get_or ws c.args.at 0) c.deref.ensures in
    let inside : i < c.self.inside.len = omega (arith, length-truths c.self.inside.len words, ap length c.self.view_is, within) in
    ap (λ l. get_or l i false) (sym c.self.view_is)
    ∙ get_or-truths c.self.inside.len words i false inside
    ∙ ap (λ (n : ℕ). bit_at (get_or words n 0) (i % 64) == 1) same
    ∙ ap (λ (w : ℕ). bit_at w (i % 64) == 1) (sym word_is)
