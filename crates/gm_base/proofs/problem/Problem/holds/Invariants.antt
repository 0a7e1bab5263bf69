use Rattle.std.proofs.Common.{◌≡◌, true, take}
use Rattle.std.specs.List.{list_all}
use Rattle.gm_base.specs.Index.{group_true}
use Rattle.gm_base.proofs.problem.Problem.holds.Given as goal

-- the groups so far hold
abbrev pub invariant-loop-g : goal.invariant-loop-g
invariant-loop-g l = list_all (group_true l.self.clauses l.assign) (take l.g-index l.g-items) ≡ true
