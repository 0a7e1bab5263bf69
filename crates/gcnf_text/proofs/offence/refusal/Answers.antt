use Rattle.std.proofs.Common.{rules}
use Rattle.gcnf_text.proofs.offence.refusal.Goals as goal

-- the place is the one of the answer
pub returns : goal.returns
returns c = search rules
