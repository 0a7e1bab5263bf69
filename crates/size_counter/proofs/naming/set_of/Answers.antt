use Rattle.size_counter.proofs.KnownLemmas.{KnowsAll-more}
use Rattle.size_counter.proofs.naming.set_of.Goals as goal

-- one number more
pub loop-number-preserved : goal.loop-number-preserved
loop-number-preserved c =
    KnowsAll-more c.loop-number.set c.insert.new.self c.args.numbers.now c.loop-number.number-index c.loop-number-test.true c.loop-number.invariant
    c.in_ok-insert.ensures.updates
