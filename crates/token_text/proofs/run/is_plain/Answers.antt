use Rattle.std.proofs.Common.{rules}
use Rattle.token_text.proofs.run.is_plain.Goals as goal

-- neither white space nor a brace
pub returns : goal.returns
returns c = search rules
