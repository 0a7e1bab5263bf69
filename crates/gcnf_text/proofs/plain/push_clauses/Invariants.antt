use Rattle.std.proofs.Common.{◌≡◌, ◌++◌, take}
use Rattle.std.specs.List.{flat_map}
use Rattle.gcnf_text.specs.Plain.{clause_line}
use Rattle.gcnf_text.proofs.plain.push_clauses.Given as goal

-- the clauses so far were written
abbrev pub invariant-loop-at : goal.invariant-loop-at
invariant-loop-at l = l.out.items ≡ l.fn.out.items ++ flat_map clause_line (take l.at l.problem.clauses)
