use Rattle.std.proofs.Common.{◌*◌, ◌≤◌, take, sym, ◌∙◌, ap, arith}
use Rattle.std.specs.Arc.{arc_value}
use Rattle.sat_base.specs.Bits.{truths}
use Rattle.sat_base.proofs.BitLemmas.{take-truths, truths-alike}
use Rattle.sat_base.proofs.assign.Assign.prefix.Goals as goal

-- the values stand in the first words alone
pub returns : goal.returns
returns c =
    let words = arc_value c.self.inside.words in
    let within : c.min-len.result ≤ 64 * c.div_ceil.result = omega (arith, c.div_ceil.ensures) in
    truths-alike c.min-len.result c.div_ceil.result (arc_value c.first_words-words.result) words within c.first_words-words.ensures.same
    ∙ ap (λ n. truths n words) c.min-len.ensures
    ∙ sym (take-truths c.args.vars c.self.inside.len words)
    ∙ ap (take c.args.vars) c.self.view_is

pub invariant_of-result : goal.invariant_of-result
invariant_of-result c = omega (arith, c.div_ceil.ensures, c.first_words-words.ensures.enough)
