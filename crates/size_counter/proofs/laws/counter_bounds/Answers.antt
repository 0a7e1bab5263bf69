use Rattle.size_counter.proofs.FewLemmas.{few-extend}
use Rattle.size_counter.proofs.BoundLemmas.{extended-few}
use Rattle.size_counter.proofs.laws.counter_bounds.Goals as goal

-- each law is a lemma
pub returns : goal.returns
returns c = record { few = few-extend; no_other = extended-few }
