use Rattle.edit_session.proofs.OpeningLemmas.{known-at}
use Rattle.edit_session.proofs.corrections.start_at.Goals as goal

pub start_of-requires-clause-known : goal.start_of-requires-clause-known
start_of-requires-clause-known c = known-at c.args.old.now c.args.records.now c.args.at c.at.result.now c.groups-groups.ensures.well_formed c.requires.accepted c.at.ensures
