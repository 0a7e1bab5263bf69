use Rattle.std.proofs.Common.{◌∙◌, sym, subst}
use Rattle.sat_base.specs.Literals.{AreLiterals}
use Rattle.lrat_check.specs.State.{State}
use Rattle.lrat_check.proofs.ClauseLemmas.{clause_over}
use Rattle.lrat_check.proofs.checker.Checker.step.Goals as goal

-- the literals of an accepted step are over the variables
pub add-requires-clause-over : goal.add-requires-clause-over
add-requires-clause-over c =
    let over : AreLiterals c.args.self.now.vars c.args.lits.now =
    clause_over c.args.self.now.vars c.args.lits.now (c.refusal.ensures.accepts.0 c.in_default.is).is_clause in
    subst (λ (s : State). AreLiterals s.vars c.args.lits.now) (sym (c.self.view_is ∙ c.refusal.ensures.same)) over
