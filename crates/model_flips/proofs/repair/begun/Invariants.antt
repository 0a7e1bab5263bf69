use Rattle.std.proofs.Common.{◌≡◌, ℕ, Some, take}
use Rattle.std.specs.Prelude.{slice_get}
use Rattle.sat_base.specs.Members.{In}
use Rattle.gm_base.specs.declared.clause.Clause.{Clause}
use Rattle.model_flips.proofs.repair.begun.Given as goal

-- the clauses of the groups so far are listed
abbrev pub invariant-loop-group : goal.invariant-loop-group
invariant-loop-group l = (at : ℕ) (clause : Clause) → slice_get l.problem.clauses at ≡ Some clause → In clause.group (take l.group-index l.group-items) → In at l.places.items
