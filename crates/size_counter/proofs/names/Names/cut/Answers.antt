use Rattle.std.proofs.Common.{arith}
use Rattle.size_counter.proofs.KnownLemmas.{CutTo-pop}
use Rattle.size_counter.proofs.names.Names.cut.Goals as goal

-- one number less
pub loop-self-preserved-in-Some : goal.loop-self-preserved-in-Some
loop-self-preserved-in-Some c =
    let count = c.len.ensures in
    let test = c.loop-self-test.true in
    CutTo-pop c.args.self.now c.args.len c.loop-self.self-inside.known c.remove.new.self c.loop-self.self-inside.named.items c.pop.new.self.items c.in-Some.number
    (omega arith) c.loop-self.invariant c.in-Some.ensures.items c.remove.ensures.updates
