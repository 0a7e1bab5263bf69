use Rattle.size_counter.proofs.GrowthLemmas.{group-row}
use Rattle.size_counter.proofs.laws.counter_grows.Goals as goal

-- the law is a lemma
pub returns : goal.returns
returns c = group-row
