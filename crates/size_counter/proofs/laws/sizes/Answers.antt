use Rattle.size_counter.proofs.SizeLemmas.{kind_has-size}
use Rattle.size_counter.proofs.laws.sizes.Goals as goal

-- the law is a lemma
pub returns : goal.returns
returns c = kind_has-size
