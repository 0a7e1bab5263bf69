use Rattle.std.proofs.Common.{ℕ, ◌+◌, ◌∙◌, ap, refl, rules}
use Rattle.token_text.proofs.NumberLemmas.{finds_number, finds_word, is_written}
use Rattle.token_text.proofs.run.word_or_number.Goals as goal

-- the run behind the sign is the number's
pub returns-in-Some-clause-found : goal.returns-in-Some-clause-found
returns-in-Some-clause-found c =
    let is =
    finds_number c.args.text.now c.args.at _ _ _ _ _ c.in-Some.number
    (is_written _ _ _ _ c.requires.within c.requires.plain refl (ap (λ (n : ℕ). c.args.at + n) c.from.ensures))
    c.run_from-run.ensures.digits c.run_from-run.ensures.value c.number.ensures c.in-Some.is in
    search (rules, is)

pub returns-in-Some-clause-end : goal.returns-in-Some-clause-end
returns-in-Some-clause-end c =
    c.run_from-run.ensures.end
    ∙ (is_written _ _ _ _ c.requires.within c.requires.plain refl (ap (λ (n : ℕ). c.args.at + n) c.from.ensures)).end

-- the run behind the sign is no number's
pub returns-in-None-clause-found : goal.returns-in-None-clause-found
returns-in-None-clause-found c =
    finds_word c.args.text.now c.args.at _ _ _ _ _ _
    (is_written _ _ _ _ c.requires.within c.requires.plain refl (ap (λ (n : ℕ). c.args.at + n) c.from.ensures))
    c.run_from-run.ensures.digits c.run_from-run.ensures.value c.number.ensures c.in-None.is c.run_from-run.ensures.end

pub returns-in-None-clause-end : goal.returns-in-None-clause-end
returns-in-None-clause-end c =
    c.run_from-run.ensures.end
    ∙ (is_written _ _ _ _ c.requires.within c.requires.plain refl (ap (λ (n : ℕ). c.args.at + n) c.from.ensures)).end
