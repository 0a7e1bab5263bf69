use Rattle.std.proofs.Common.{◌+◌, ◌∙◌, subst, sym, arith}
use Rattle.model_flips.proofs.AscentLemmas.{AscendsTo, AscendsTo-push, AscendsTo-more, AscendsTo-ascends}
use Rattle.model_flips.proofs.flips.Flips.left_out.Goals as goal
use Rattle.model_flips.proofs.flips.Flips.left_out.Goals.{then-not-holds+in_ok-push, else-not-holds}

-- the next group is above those that were pushed
pub push-requires : goal.push-requires
push-requires c =
    let at = c.loop-at.at in
    AscendsTo-ascends 0 (at + 1) _ (AscendsTo-push 0 at (at + 1) c.loop-at.out (omega arith) c.loop-at.invariant)

pub loop-at-preserved : goal.loop-at-preserved
loop-at-preserved c =
    let at = c.loop-at.at in
    elim c.if-not-holds.branch [
      | then-not-holds+in_ok-push w ↦
          subst (AscendsTo 0 (at + 1)) (sym (w.out-is ∙ w.in_ok-push.ensures.ok)) (AscendsTo-push 0 at (at + 1) c.loop-at.out (omega arith) c.loop-at.invariant)
      | else-not-holds w ↦ subst (AscendsTo 0 (at + 1)) (sym w.out-is) (AscendsTo-more 0 at (at + 1) c.loop-at.out (omega arith) c.loop-at.invariant)
    ]
