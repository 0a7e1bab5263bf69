use Rattle.std.proofs.Common.{inl, inr}
use Rattle.model_flips.proofs.rotation.still_out.Goals as goal

pub loop-group-preserved : goal.loop-group-preserved
loop-group-preserved c = λ g was.
    elim (c.loop-group.invariant g was) [
      | inl left ↦ c.in_ok-left-2.ensures g left
      | inr holds ↦ inr holds
    ]
