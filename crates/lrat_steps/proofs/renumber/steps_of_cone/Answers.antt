use Rattle.std.proofs.Common.{get_or}
use Rattle.sat_base.proofs.DatabaseLemmas.{get_in}
use Rattle.lrat_steps.proofs.renumber.steps_of_cone.Goals as goal

-- the id of a cone is that of a derived step
pub share-requires : goal.share-requires
share-requires c = c.requires.cone.derived (get_or c.args.cone.now c.loop-id.id-index 0) (get_in c.args.cone.now c.loop-id.id-index 0 c.loop-id-test.true)
