use Rattle.sat_base.specs.Literals.{AreLiterals}
use Rattle.cdcl_core.specs.Answers.{IsConsistent}
use Rattle.solver_trials.proofs.solver.assumed_of.Given as goal

abbrev pub invariant-loop-number : goal.invariant-loop-number
invariant-loop-number l = record { literals : AreLiterals l.vars l.lits.items; consistent : IsConsistent l.lits.items }
