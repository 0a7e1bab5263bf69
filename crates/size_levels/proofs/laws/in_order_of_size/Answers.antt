use Rattle.size_levels.proofs.SizeLemmas.{by_size-all, level_for-least}
use Rattle.size_levels.proofs.laws.in_order_of_size.Goals as goal

-- each law is a lemma
pub returns : goal.returns
returns c = record { all = by_size-all; least = level_for-least }
