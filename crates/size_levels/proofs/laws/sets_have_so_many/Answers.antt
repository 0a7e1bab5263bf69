use Rattle.size_levels.proofs.PackedLemmas.{packed-fewer}
use Rattle.size_levels.proofs.laws.sets_have_so_many.Goals as goal

-- the law is a lemma
pub returns : goal.returns
returns c = packed-fewer
