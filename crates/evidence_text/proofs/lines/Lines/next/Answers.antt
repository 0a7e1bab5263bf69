use Rattle.std.proofs.Common.{sym, ap, ◌∙◌, ◌∷◌, List, ℕ, take, arith}
use Rattle.evidence_text.specs.Lines.{words_of, lines_of, unended}
use Rattle.evidence_text.proofs.LineLemmas.{lines_of-first, rest_of-first, lines_of-none}
use Rattle.evidence_text.proofs.lines.Lines.next.Goals as goal

pub returns-in-None-clause-none : goal.returns-in-None-clause-none
returns-in-None-clause-none c = lines_of-none c.args.self.now.rest.now (λ k lt. c.in-None.ensures k (omega arith) lt)

pub returns-in-Some-clause-some : goal.returns-in-Some-clause-some
returns-in-Some-clause-some c =
    let text = c.args.self.now.rest.now in
    lines_of-first text c.in-Some.end c.in-Some.ensures.0.high c.in-Some.ensures.1 (λ k lt. c.in-Some.ensures.0.before k (omega arith) lt)
    ∙ ap (λ (t : List ℕ). words_of (take c.in-Some.end text) ∷ lines_of t) (sym c.behind.ensures)

pub returns-in-Some-clause-rest : goal.returns-in-Some-clause-rest
returns-in-Some-clause-rest c =
    let text = c.args.self.now.rest.now in
    ap unended c.behind.ensures
    ∙ rest_of-first text c.in-Some.end c.in-Some.ensures.0.high c.in-Some.ensures.1 (λ k lt. c.in-Some.ensures.0.before k (omega arith) lt)
