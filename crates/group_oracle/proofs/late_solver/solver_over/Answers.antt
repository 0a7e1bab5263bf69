use Rattle.std.proofs.Common.{sym, subst, arith}
use Rattle.sat_base.specs.Literals.{AreLiterals}
use Rattle.cdcl_core.specs.Solver.{Solver}
use Rattle.group_oracle.proofs.LateLemmas.{given_literals, over_more, over_all}
use Rattle.group_oracle.proofs.late_solver.solver_over.Goals as goal

-- the clause is over the solver's variables
pub add-requires : goal.add-requires
add-requires c =
    subst (λ (s : Solver). AreLiterals s.vars c.lits.result.now) (sym c.loop-at.invariant)
    (given_literals c.args.vars c.args.given.now c.loop-at.at c.lits.result.now c.requires.literals c.lits.ensures)

-- the next clause stands at the end
pub loop-at-preserved : goal.loop-at-preserved
loop-at-preserved c =
    over_more c.args.vars c.args.given.now c.loop-at.at c.lits.result.now c.loop-at.solver c.add.new.self c.lits.ensures c.loop-at.invariant c.in_ok-add.ensures.ok

-- no clause is left
pub returns : goal.returns
returns c = over_all c.args.vars c.args.given.now c.loop-at.at c.loop-at.solver (omega arith) c.loop-at.invariant
