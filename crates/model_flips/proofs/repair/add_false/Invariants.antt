use Rattle.std.proofs.Common.{ℕ, take}
use Rattle.sat_base.specs.Members.{In}
use Rattle.model_flips.specs.Repair.{IsFalseAmong}
use Rattle.model_flips.proofs.repair.add_false.Given as goal

-- what was listed stays, and the clauses so far are true or listed
abbrev pub invariant-loop-place : goal.invariant-loop-place
invariant-loop-place l = ((at : ℕ) → In at l.fn.falsified.items → In at l.falsified.items) × IsFalseAmong l.problem l.values (take l.place-index l.places) l.falsified.items
