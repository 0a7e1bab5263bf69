use Rattle.gcnf_text.proofs.SameLemmas.{same_problem}
use Rattle.gcnf_text.proofs.laws.reads_one_problem.Goals as goal

pub returns : goal.returns
returns c = same_problem
