use Rattle.std.proofs.Common.{◌≡◌}
use Rattle.sat_base.specs.Literals.{AreLiterals}
use Rattle.solver_trials.proofs.solver.add_all.Given as goal

abbrev pub invariant-loop-number : goal.invariant-loop-number
invariant-loop-number l = record { vars : l.solver.vars ≡ l.fn.solver.vars; same : l.vars ≡ l.fn.solver.vars; literals : AreLiterals l.fn.solver.vars l.lits.items }
