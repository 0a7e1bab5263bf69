use Rattle.std.proofs.Common.{Some, ap, ◌∙◌}
use Rattle.std.specs.Prelude.{slice_get}
use Rattle.std.proofs.lemmas.Slice.Eq.{slice_eq-Decides}
use Rattle.std.proofs.lemmas.Bool.Decides.{Decides-int_eq}
use Rattle.lrat_steps.specs.Given.{given_in}
use Rattle.lrat_steps.proofs.shown.stands_at.Goals as goal

-- the two lists of literals are the same
pub returns-then-at-len-clause-is : goal.returns-then-at-len-clause-is
returns-then-at-len-clause-is c same =
    let decides = slice_eq-Decides Decides-int_eq c.lits.result.now c.args.lits.now c.eq.result c.eq.ensures in
    ap (λ given. slice_get (given_in given) c.args.at) c.in-Some.is ∙ c.lits.ensures ∙ ap Some (decides.0 same)
