use Rattle.std.proofs.Common.{◌++◌, drop, ◌+◌, subst, sym, arith}
use Rattle.gm_base.specs.Sets.{IsGroupSet}
use Rattle.worker_pool.proofs.Unmet.{unmet_push, unmet_keeps, unmet_skips}
use Rattle.worker_pool.proofs.met.Met.unmet_of.Goals as goal
use Rattle.worker_pool.proofs.met.Met.unmet_of.Goals.{then-is_unmet+in_ok-push, else-is_unmet}

-- what was kept is below the next group
pub push-requires : goal.push-requires
push-requires c = unmet_push c.loop-g.unmet c.as_slice-g-items.result.now c.loop-g.g-index (omega arith) c.loop-g.invariant

-- the next group is kept or passed over
pub loop-g-preserved : goal.loop-g-preserved
loop-g-preserved c =
    let items = c.as_slice-g-items.result.now in
    let at = c.loop-g.g-index in
    elim c.if-is_unmet.branch [
      | then-is_unmet+in_ok-push w ↦ rw w.unmet-is (subst (λ gs. IsGroupSet (gs ++ drop (at + 1) items)) (sym w.in_ok-push.ensures.ok) (unmet_keeps c.loop-g.unmet items at (omega arith) c.loop-g.invariant))
      | else-is_unmet w ↦ rw w.unmet-is (unmet_skips c.loop-g.unmet items at (omega arith) c.loop-g.invariant)
    ]
