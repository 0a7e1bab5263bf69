use Rattle.std.specs.Prelude.{slice_index_or}
use Rattle.sat_base.proofs.DatabaseLemmas.{get_in}
use Rattle.cdcl_core.proofs.activity.bump_conflict.Goals as goal

pub lits-requires : goal.lits-requires
lits-requires c = c.requires.hints (slice_index_or c.args.hints.now c.loop-id.id-index 0) (get_in c.args.hints.now c.loop-id.id-index 0 c.loop-id-test.true)
