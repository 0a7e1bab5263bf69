use Rattle.std.proofs.Common.{rules}
use Rattle.token_text.proofs.run.number.Goals as goal

-- a value behind its sign
pub returns-then-negative-2 : goal.returns-then-negative-2
returns-then-negative-2 c = search rules
