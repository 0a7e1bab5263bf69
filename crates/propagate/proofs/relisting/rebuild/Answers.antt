use Rattle.std.proofs.Common.{arith}
use Rattle.propagate.proofs.RebuildLemmas.{relisted_all}
use Rattle.propagate.proofs.relisting.rebuild.Goals as goal

-- all clauses have come
pub returns-clause-kept : goal.returns-clause-kept
returns-clause-kept c = relisted_all c.loop-id.store c.args.trail.now c.loop-id.id c.loop-id.invariant.lists (omega (arith, c.loop-id-test.false, c.len.ensures.len))

pub returns-clause-unparked : goal.returns-clause-unparked
returns-clause-unparked c = record { empty = c.loop-id.invariant.lists.parks }
