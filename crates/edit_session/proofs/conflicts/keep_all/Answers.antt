use Rattle.edit_session.proofs.OpeningLemmas.{known-at, kept-next}
use Rattle.edit_session.proofs.conflicts.keep_all.Goals as goal

pub keep-requires-clause-known : goal.keep-requires-clause-known
keep-requires-clause-known c = known-at c.args.old.now c.args.records.now c.loop-at.at c.at.result.now c.groups-groups.ensures.well_formed c.requires.accepted c.at.ensures

-- one record further
pub loop-at-preserved : goal.loop-at-preserved
loop-at-preserved c =
    kept-next c.args.old.now c.args.new.now c.args.records.now c.args.opening.now c.loop-at.opening c.keep.new.opening c.loop-at.at c.at.result.now c.at.ensures c.loop-at.invariant c.in_ok-keep.ensures
