use Rattle.std.proofs.Common.{slice_index_or}
use Rattle.sat_base.proofs.DatabaseLemmas.{get_in}
use Rattle.lrat_steps.proofs.renumber.push_steps.Goals as goal

pub push_step-requires-clause-has : goal.push_step-requires-clause-has
push_step-requires-clause-has c = get_in c.args.cone.now c.loop-id.id-index 0 c.loop-id-test.true

-- its hints are inputs or of the cone too
pub push_step-requires-clause-reached : goal.push_step-requires-clause-reached
push_step-requires-clause-reached c =
    c.requires.cone.hints_reached (slice_index_or c.args.cone.now c.loop-id.id-index 0) (get_in c.args.cone.now c.loop-id.id-index 0 c.loop-id-test.true)
