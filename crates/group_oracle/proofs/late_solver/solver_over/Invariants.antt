use Rattle.std.proofs.Common.{◌≡◌, take}
use Rattle.group_oracle.specs.Late.{new_over}
use Rattle.group_oracle.proofs.late_solver.solver_over.Given as goal

-- the clauses so far were added
abbrev pub invariant-loop-at : goal.invariant-loop-at
invariant-loop-at l = l.solver ≡ new_over l.vars (take l.at l.given)
