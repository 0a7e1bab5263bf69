use Rattle.gm_audit.proofs.YesLemmas.{none-is_yes, yes-is_one, written-is_yes, shortened-is_yes}
use Rattle.gm_audit.proofs.laws.yes_is_unrefused.Goals as goal

pub returns-clause-exactly : goal.returns-clause-exactly
returns-clause-exactly c = none-is_yes

pub returns-clause-one : goal.returns-clause-one
returns-clause-one c = yes-is_one

pub returns-clause-written : goal.returns-clause-written
returns-clause-written c = written-is_yes

pub returns-clause-shortened : goal.returns-clause-shortened
returns-clause-shortened c = shortened-is_yes
