use Rattle.std.proofs.Common.{◌∙◌}
use Rattle.token_text.proofs.NextLemmas.{is_next}
use Rattle.token_text.proofs.tokens.Tokens.next.Goals as goal

pub returns-clause-found : goal.returns-clause-found
returns-clause-found c =
    (is_next _ _ c.pass_space-start.result c.found_at-end.result.0 c.found_at-end.result.1
    (c.pass_space-start.ensures.left ∙ c.self.view_is) c.pass_space-start.ensures.before c.pass_space-start.ensures.within
    c.pass_space-start.ensures.stops c.found_at-end.ensures.found c.found_at-end.ensures.end).found

pub returns-clause-end : goal.returns-clause-end
returns-clause-end c =
    (is_next _ _ c.pass_space-start.result c.found_at-end.result.0 c.found_at-end.result.1
    (c.pass_space-start.ensures.left ∙ c.self.view_is) c.pass_space-start.ensures.before c.pass_space-start.ensures.within
    c.pass_space-start.ensures.stops c.found_at-end.ensures.found c.found_at-end.ensures.end).end
