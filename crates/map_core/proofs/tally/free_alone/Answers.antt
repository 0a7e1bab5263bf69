use Rattle.std.proofs.Common.{length, arith}
use Rattle.map_core.proofs.TallySteps.{within-at, IsFreed-one, IsFreed-none}
use Rattle.map_core.proofs.tally.free_alone.Goals as goal

pub free-requires-clause-low : goal.free-requires-clause-low
free-requires-clause-low c = (within-at c.args.set.now (length c.args.carried.now.items) 0 0 c.requires.within (omega arith)).0

pub free-requires-clause-within : goal.free-requires-clause-within
free-requires-clause-within c = (within-at c.args.set.now (length c.args.carried.now.items) 0 0 c.requires.within (omega arith)).1

-- a set of one is its group alone
pub returns-then-set-eq1-clause-is : goal.returns-then-set-eq1-clause-is
returns-then-set-eq1-clause-is c =
    IsFreed-one c.args.set.now c.args.carried.now.items c.free.new.carried.items 0 (omega arith) c.requires.within c.free.ensures.is

pub returns-else-set-eq1-clause-is : goal.returns-else-set-eq1-clause-is
returns-else-set-eq1-clause-is c = IsFreed-none c.args.set.now c.args.carried.now.items (λ one. c.if-set-eq1.false (omega arith))
