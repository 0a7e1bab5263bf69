use Rattle.size_counter.proofs.SizeLemmas.{distinct-fit, distinct-ascends}
use Rattle.size_counter.proofs.laws.distinct_numbers.Goals as goal

-- each law is a lemma
pub returns : goal.returns
returns c = record { fit = distinct-fit; sets = λ set ok. distinct-ascends 0 set ok }
