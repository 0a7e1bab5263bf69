use Rattle.std.proofs.Common.{◌≡◌, ◌≤◌, length, take}
use Rattle.std.specs.List.{filter}
use Rattle.gm_base.specs.Problem.{is_present}
use Rattle.lrat_export.proofs.cnf.count_present.Given as goal

-- those among the first clauses are counted
abbrev pub invariant-loop-at : goal.invariant-loop-at
invariant-loop-at l = (l.count ≡ length (filter (is_present l.set) (take l.at l.problem.clauses))) × (l.count ≤ l.at)
