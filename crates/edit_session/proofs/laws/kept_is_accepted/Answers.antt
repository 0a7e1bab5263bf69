use Rattle.edit_session.proofs.WitnessLemmas.{kept-accepted}
use Rattle.edit_session.proofs.laws.kept_is_accepted.Goals as goal

-- the law is a lemma
pub returns : goal.returns
returns c = kept-accepted
