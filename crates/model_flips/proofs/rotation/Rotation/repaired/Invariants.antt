use Rattle.std.proofs.Common.{◌≡◌, length}
use Rattle.model_flips.specs.Rotation.{IsListing, Satisfies}
use Rattle.model_flips.specs.Repair.{IsRepair}
use Rattle.model_flips.proofs.rotation.Rotation.repaired.Given as goal

-- each clause that is false is listed, where the assignment at the beginning is as is said
abbrev pub invariant-loop : goal.invariant-loop
invariant-loop l = (length l.repair.values ≡ l.problem.vars) × (IsListing l.problem.clauses l.self → Satisfies l.problem l.out l.assign → IsRepair l.problem l.repair)
