use Rattle.gm_audit.proofs.ExactLemmas.{exact-from_yes}
use Rattle.gm_audit.proofs.laws.complete_is_exact.Goals as goal

pub returns : goal.returns
returns c = exact-from_yes
