use Rattle.std.proofs.Common.{ℕ, length, sym, arith}
use Rattle.map_core.proofs.TallySteps.{within-at, count-next, IsCarried-start, IsCarried-more}
use Rattle.map_core.proofs.tally.carry.Goals as goal

pub loop-g-init : goal.loop-g-init
loop-g-init c =
    record {
      is = IsCarried-start c.args.current c.args.carried.now.items;
      count = sym (count-next c.args.carried.now.items c.args.current c.requires.upto);
    }

pub carry_one-carriers-requires-clause-low : goal.carry_one-carriers-requires-clause-low
carry_one-carriers-requires-clause-low c =
    let ends = within-at c.args.set.now (length c.args.carried.now.items) c.loop-g.g-index 0 c.requires.within (omega arith) in
    let some = ends.0 in omega arith

pub carry_one-carriers-requires-clause-within : goal.carry_one-carriers-requires-clause-within
carry_one-carriers-requires-clause-within c =
    let ends = within-at c.args.set.now (length c.args.carried.now.items) c.loop-g.g-index 0 c.requires.within (omega arith) in
    let most = ends.1 in
    let size = c.loop-g.invariant.is.size in omega arith

-- one group more of the set
pub loop-g-preserved : goal.loop-g-preserved
loop-g-preserved c =
    let ends = within-at c.args.set.now (length c.args.carried.now.items) c.loop-g.g-index 0 c.requires.within (omega arith) in
    let most = ends.1 in
    let size = c.loop-g.invariant.is.size in
    let old = c.loop-g.carried.items in
    let current : ℕ = c.args.current in
    record {
      is =
          IsCarried-more current c.args.set.now c.args.carried.now.items old c.carry_one-carriers.new.carried.items c.loop-g.g-index 0 (omega arith)
          c.loop-g.invariant.is ends.0 (omega arith)
          c.carry_one-carriers.ensures.is;
      count = c.carry_one-carriers.ensures.count;
    }
