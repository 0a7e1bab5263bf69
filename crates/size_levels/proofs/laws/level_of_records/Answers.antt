use Rattle.size_levels.proofs.LevelLemmas.{accepted-within, level-of_records}
use Rattle.size_levels.proofs.ShownLemmas.{records-shown}
use Rattle.size_levels.proofs.laws.level_of_records.Goals as goal

-- each law is a lemma
pub returns : goal.returns
returns c = record { within = accepted-within; explores = level-of_records; complete = records-shown }
