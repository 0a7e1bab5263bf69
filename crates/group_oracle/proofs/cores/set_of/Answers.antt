use Rattle.std.proofs.Common.{get_or, refl, arith}
use Rattle.group_oracle.proofs.GroupLemmas.{ascends_push, so_far_start, so_far_push, so_far_skip}
use Rattle.group_oracle.proofs.cores.set_of.Goals as goal
use Rattle.group_oracle.proofs.cores.set_of.Goals.{then-group-last+in_ok-push, else-group-last}

-- the group is above all groups of the set
pub push-requires : goal.push-requires
push-requires c =
    let inv = c.loop-group.invariant in
    ascends_push 0 (get_or c.args.groups.now c.loop-group.group-index 0) c.loop-group.set inv.is_set (omega (arith, c.if-group-last.true))
    (λ h i. let low = inv.below h i in omega (arith, c.if-group-last.true))

pub loop-group-preserved : goal.loop-group-preserved
loop-group-preserved c =
    let groups = c.args.groups.now in
    let at = c.loop-group.group-index in
    let g = get_or groups at 0 in
    let old = c.loop-group.set in
    let last = c.loop-group.last in
    let inv = c.loop-group.invariant in
    let lt = c.loop-group-test.true in
    elim c.if-group-last.branch [
      | then-group-last+in_ok-push w ↦ rw (w.set-is, w.last-is) (so_far_push groups old w.push.new.self at last g 0 inv c.requires.ascends lt refl w.if-group-last.true w.in_ok-push.ensures.ok)
      | else-group-last w ↦ rw (w.set-is, w.last-is) (so_far_skip groups old at last g 0 inv c.requires.not_background lt refl w.if-group-last.false)
    ]

-- no group was met, and none is below the first
pub loop-group-init : goal.loop-group-init
loop-group-init c = so_far_start c.args.groups.now c.new-set.result c.new-set.ensures
