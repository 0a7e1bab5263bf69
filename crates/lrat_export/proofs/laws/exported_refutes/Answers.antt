use Rattle.lrat_export.proofs.RefutationLemmas.{exported-refutes}
use Rattle.lrat_export.proofs.laws.exported_refutes.Goals as goal

-- the law is a lemma
pub returns : goal.returns
returns c = exported-refutes
