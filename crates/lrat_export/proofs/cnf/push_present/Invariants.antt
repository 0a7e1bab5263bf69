use Rattle.std.proofs.Common.{◌≡◌, ◌++◌, take}
use Rattle.lrat_export.specs.Cnf.{lines_of}
use Rattle.lrat_export.proofs.cnf.push_present.Given as goal

-- the clauses so far were written
abbrev pub invariant-loop-at : goal.invariant-loop-at
invariant-loop-at l = l.out.items ≡ l.fn.out.items ++ lines_of l.set (take l.at l.problem.clauses)
