use Rattle.map_core.proofs.Roles.{settled_tells}
use Rattle.map_core.proofs.laws.settled_is_right.Goals as goal

pub returns : goal.returns
returns c = settled_tells
