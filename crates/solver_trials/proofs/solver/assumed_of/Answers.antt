use Rattle.std.proofs.Common.{subst, sym}
use Rattle.sat_base.specs.Literals.{AreLiterals}
use Rattle.sat_base.specs.Members.{In}
use Rattle.std.specs.Prelude.{ℤ, List}
use Rattle.cdcl_core.specs.Answers.{IsConsistent}
use Rattle.solver_trials.proofs.LitLemmas.{literals_push, consistent_push}
use Rattle.solver_trials.proofs.solver.assumed_of.Goals as goal

pub loop-number-preserved : goal.loop-number-preserved
loop-number-preserved c =
    let lits = c.loop-number.lits.items in
    let inv = c.loop-number.invariant in
    let is = c.in_ok-push.ensures.items in
    let lit = c.in-Some.lit in
    let none = subst (λ (k : ℤ). ¬ In k lits) c.negated.ensures (subst (λ (ls : List ℤ). ¬ In c.negated.result ls) c.deref.ensures.value (c.is_among.ensures.no c.if-is_among.false)) in
    record {
      literals = subst (AreLiterals c.args.vars) (sym is) (literals_push c.args.vars lits lit inv.literals c.in-Some.ensures);
      consistent = subst IsConsistent (sym is) (consistent_push c.args.vars lits lit c.in-Some.ensures inv.consistent none);
    }
