use Rattle.std.proofs.Common.{length, arith}
use Rattle.map_core.proofs.TallySteps.{within-at, IsMet-start, IsMet-more}
use Rattle.map_core.proofs.tally.meet.Goals as goal

pub loop-g-init : goal.loop-g-init
loop-g-init c = record { is = IsMet-start c.args.met.now.items; count = c.requires.count }

pub meet_one-rest-requires-clause-low : goal.meet_one-rest-requires-clause-low
meet_one-rest-requires-clause-low c =
    let ends = within-at c.args.set.now (length c.args.met.now.items) c.loop-g.g-index 0 c.requires.within (omega arith) in
    let some = ends.0 in omega arith

pub meet_one-rest-requires-clause-within : goal.meet_one-rest-requires-clause-within
meet_one-rest-requires-clause-within c =
    let ends = within-at c.args.set.now (length c.args.met.now.items) c.loop-g.g-index 0 c.requires.within (omega arith) in
    let most = ends.1 in
    let size = c.loop-g.invariant.is.size in omega arith

-- one group more of the set
pub loop-g-preserved : goal.loop-g-preserved
loop-g-preserved c =
    let ends = within-at c.args.set.now (length c.args.met.now.items) c.loop-g.g-index 0 c.requires.within (omega arith) in
    let most = ends.1 in
    let size = c.loop-g.invariant.is.size in
    record {
      is =
          IsMet-more c.args.set.now c.args.met.now.items c.loop-g.met.items c.meet_one-rest.new.met.items c.loop-g.g-index 0 (omega arith)
          c.loop-g.invariant.is ends.0 (omega arith)
          c.meet_one-rest.ensures.is;
      count = c.meet_one-rest.ensures.count;
    }
