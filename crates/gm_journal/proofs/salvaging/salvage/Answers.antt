use Rattle.gm_journal.proofs.SalvagingLemmas.{told-records, judged-records, judged-accepted}
use Rattle.gm_journal.proofs.salvaging.salvage.Goals as goal

-- the texts that were taken are those of the records that the judge kept
pub returns-in-Ended-clause-told : goal.returns-in-Ended-clause-told
returns-in-Ended-clause-told g c =
    told-records c.args.problem.now c.in-Ok.judge _ c.salvage.new.judge.records c.into_records.result _ _ c.in-Ok.ensures c.into_records.ensures c.in-Ended.ensures.told

pub returns-in-Ended-clause-records : goal.returns-in-Ended-clause-records
returns-in-Ended-clause-records g c =
    judged-records c.args.problem.now c.in-Ok.judge c.salvage.new.judge.records c.into_records.result c.in-Ok.ensures c.into_records.ensures c.in-Ended.ensures.judged

pub returns-in-Ended-clause-accepted : goal.returns-in-Ended-clause-accepted
returns-in-Ended-clause-accepted g c =
    judged-accepted c.args.problem.now c.in-Ok.judge c.salvage.new.judge.records c.into_records.result c.in-Ok.ensures c.into_records.ensures c.in-Ended.ensures.judged
