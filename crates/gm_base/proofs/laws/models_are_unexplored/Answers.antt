use Rattle.gm_base.proofs.ExploredLemmas.{models-unexplored}
use Rattle.gm_base.proofs.laws.models_are_unexplored.Goals as goal

pub returns : goal.returns
returns c = models-unexplored
