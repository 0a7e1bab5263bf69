use Rattle.std.proofs.Common.{length, refl, arith}
use Rattle.map_core.proofs.TallySteps.{within-at, IsMet-start, IsMet-more}
use Rattle.focus_roles.proofs.roles.mark.Goals as goal

pub loop-g-init : goal.loop-g-init
loop-g-init c = IsMet-start c.args.marks.now.items

pub overflow_sub-g : goal.overflow_sub-g
overflow_sub-g c =
    let ends = within-at c.args.set.now (length c.args.marks.now.items) c.loop-g.g-index 0 c.requires.within (omega arith) in
    let some = ends.0 in omega arith

pub index_mut-requires : goal.index_mut-requires
index_mut-requires c =
    let ends = within-at c.args.set.now (length c.args.marks.now.items) c.loop-g.g-index 0 c.requires.within (omega arith) in
    let some = ends.0 in
    let most = ends.1 in
    let size = c.loop-g.invariant.size in omega arith

-- one group more of the set
pub loop-g-preserved : goal.loop-g-preserved
loop-g-preserved c =
    let ends = within-at c.args.set.now (length c.args.marks.now.items) c.loop-g.g-index 0 c.requires.within (omega arith) in
    let most = ends.1 in
    let size = c.loop-g.invariant.size in
    IsMet-more c.args.set.now c.args.marks.now.items c.loop-g.marks.items _ c.loop-g.g-index 0 (omega arith) c.loop-g.invariant ends.0 (omega arith) refl
