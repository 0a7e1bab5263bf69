use Rattle.size_counter.proofs.GrowthLemmas.{counter-size}
use Rattle.size_counter.proofs.RangeLemmas.{counter-over, vars-apart}
use Rattle.size_counter.proofs.laws.counter_sizes.Goals as goal

-- each law is a lemma
pub returns : goal.returns
returns c = record { over = counter-over; apart = vars-apart; clauses = counter-size }
