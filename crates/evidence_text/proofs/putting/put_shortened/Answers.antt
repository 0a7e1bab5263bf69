use Rattle.std.proofs.Common.{rules}
use Rattle.evidence_text.proofs.putting.put_shortened.Goals as goal

-- one line names the conflict
pub returns-in-Some : goal.returns-in-Some
returns-in-Some g c = search rules
