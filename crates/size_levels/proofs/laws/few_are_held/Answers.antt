use Rattle.size_levels.proofs.HeldLemmas.{holds-up_to, missing-larger, exactly-up_to}
use Rattle.size_levels.proofs.laws.few_are_held.Goals as goal

-- each law is a lemma
pub returns : goal.returns
returns c = record { holds = holds-up_to; missing = missing-larger; exactly = exactly-up_to }
