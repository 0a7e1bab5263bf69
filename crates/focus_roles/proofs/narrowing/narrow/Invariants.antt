use Rattle.std.proofs.Common.{◌≡◌, take}
use Rattle.std.specs.List.{filter}
use Rattle.gm_base.specs.Problem.{is_present}
use Rattle.focus_roles.proofs.narrowing.narrow.Given as goal

-- of the clauses before `at`, those that stay
abbrev pub invariant-loop-at : goal.invariant-loop-at
invariant-loop-at l = l.clauses ≡ filter (is_present l.focus) (take l.at l.problem.clauses)
