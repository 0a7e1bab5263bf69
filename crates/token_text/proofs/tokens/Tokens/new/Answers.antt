use Rattle.std.proofs.Common.{ap}
use Rattle.token_text.specs.Left.{Left}
use Rattle.token_text.proofs.CursorLemmas.{left_from-start}
use Rattle.token_text.proofs.tokens.Tokens.new.Goals as goal

pub returns-clause-end : goal.returns-clause-end
returns-clause-end c = ap (λ (l : Left). l.end) (left_from-start c.args.bytes.now)
