use Rattle.size_levels.proofs.LevelLemmas.{level-explores}
use Rattle.size_levels.proofs.ShownLemmas.{explored-shown}
use Rattle.size_levels.proofs.laws.level_is_shown.Goals as goal

-- each law is a lemma
pub returns : goal.returns
returns c = record { explores = level-explores; complete = explored-shown }
