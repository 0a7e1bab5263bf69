use Rattle.std.proofs.Common.{get_or, sym, subst, arith}
use Rattle.std.proofs.lemmas.Grind.{common_steps}
use Rattle.model_flips.proofs.AscentLemmas.{AscendsTo, AscendsTo-push, AscendsTo-ascends}
use Rattle.known_sets.proofs.arena.set_of.Goals as goal

-- the next group is above the last one
pub push-requires : goal.push-requires
push-requires c =
    let group = get_or c.args.groups.now c.loop-group.group-index 0 in
    AscendsTo-ascends 0 group _ (AscendsTo-push 0 c.loop-group.last group c.loop-group.set c.if-group-last.false c.loop-group.invariant.1)

pub loop-group-preserved : goal.loop-group-preserved
loop-group-preserved c =
    let group = get_or c.args.groups.now c.loop-group.group-index 0 in (
      grind (arith, common_steps),
      subst (AscendsTo 0 group) (sym c.in-Ok.ensures.ok) (AscendsTo-push 0 c.loop-group.last group c.loop-group.set c.if-group-last.false c.loop-group.invariant.1),
    )
