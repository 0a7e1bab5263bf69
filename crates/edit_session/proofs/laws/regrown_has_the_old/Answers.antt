use Rattle.edit_session.proofs.RegrownLemmas.{regrown-old}
use Rattle.edit_session.proofs.laws.regrown_has_the_old.Goals as goal

-- the law is a lemma
pub returns : goal.returns
returns c = regrown-old
