use Rattle.std.proofs.Common.{subst, sym}
use Rattle.lrat_steps.specs.Honest.{IsHonest}
use Rattle.lrat_steps.specs.Rows.{worked_honest}
use Rattle.solver_trials.proofs.log.trim.Goals as goal

-- the worked log is honest
pub trim-requires-clause-honest : goal.trim-requires-clause-honest
trim-requires-clause-honest c = subst IsHonest (sym c.in_ok-log.ensures) worked_honest
