use Rattle.size_counter.proofs.LevelLemmas.{level-few, level-extended, level-over}
use Rattle.size_counter.proofs.laws.level_bounds.Goals as goal

-- each law is a lemma
pub returns : goal.returns
returns c = record { few = level-few; no_other = level-extended; over = level-over }
