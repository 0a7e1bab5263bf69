use Rattle.std.proofs.Common.{take}
use Rattle.std.specs.Prelude.{ℤ}
use Rattle.sat_base.specs.Members.{In}
use Rattle.trail_book.specs.Trail.{trues}
use Rattle.cdcl_core.proofs.forgetting.is_untrue.Given as goal

-- the literals before are not true
abbrev pub invariant-loop-lit : goal.invariant-loop-lit
invariant-loop-lit l = (lit : ℤ) → In lit (take l.lit-index l.clause) → ¬ In lit (trues l.trail.entries)
