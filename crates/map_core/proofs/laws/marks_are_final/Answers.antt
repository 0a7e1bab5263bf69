use Rattle.map_core.proofs.Marks.{marks_stay, none_is_new, none_is_job, none_is_grant}
use Rattle.map_core.proofs.laws.marks_are_final.Goals as goal

pub returns-clause-stay : goal.returns-clause-stay
returns-clause-stay c = marks_stay

pub returns-clause-records : goal.returns-clause-records
returns-clause-records c = none_is_new

pub returns-clause-jobs : goal.returns-clause-jobs
returns-clause-jobs c = none_is_job

pub returns-clause-grants : goal.returns-clause-grants
returns-clause-grants c = none_is_grant
