use Rattle.std.proofs.Common.{◌≡◌, map, take}
use Rattle.gm_base.specs.Evidence.{with_selector}
use Rattle.group_oracle.proofs.selectors.given_clauses.Given as goal

-- the clauses so far are there
abbrev pub invariant-loop-at : goal.invariant-loop-at
invariant-loop-at l = l.clauses ≡ map (with_selector l.problem) (take l.at l.problem.clauses)
