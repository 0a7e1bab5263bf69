use Rattle.size_counter.proofs.NameLemmas.{names_of-grows}
use Rattle.size_counter.proofs.LevelLemmas.{names-order, level-order, level-parts}
use Rattle.size_counter.proofs.laws.level_parts.Goals as goal

-- each law is a lemma
pub returns : goal.returns
returns c = record { grows = names_of-grows; named = names-order; order = level-order; parts = level-parts }
