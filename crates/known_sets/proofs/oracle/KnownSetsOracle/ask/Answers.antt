use Rattle.std.proofs.Common.{◌∙◌, ap, sym, subst}
use Rattle.evidence_rec.specs.Asking.{OracleState, IsHonestOver}
use Rattle.known_sets.proofs.OracleLemmas.{IsSpent-known}
use Rattle.known_sets.proofs.oracle.KnownSetsOracle.ask.Goals as goal

-- it is refuted, and nothing else is left for a proof
pub answer_by-requires-clause-refuted : goal.answer_by-requires-clause-refuted
answer_by-requires-clause-refuted g c = c.in-Some.ensures.refuted (g.O.Oracle.state c.self.inside.oracle).problem c.self.invariant.right

pub answer_by-requires-clause-none : goal.answer_by-requires-clause-none
answer_by-requires-clause-none g c = ap (λ (s : OracleState). s.refuted) (c.self.view_is ∙ c.begin.ensures)

-- what is known is a part of the set
pub returns-in-Some-clause-answer : goal.returns-in-Some-clause-answer
returns-in-Some-clause-answer g c = c.answer_by.ensures.answer c.args.set.now c.args.purse.now.left c.in-Some.ensures.within

-- where there is no memory for it, nothing was refuted
pub returns-in-Some-clause-err : goal.returns-in-Some-clause-err
returns-in-Some-clause-err g c = c.answer_by.ensures.err

-- problem and log stay, and the question is counted
pub returns-in-Some-clause-asks : goal.returns-in-Some-clause-asks
returns-in-Some-clause-asks g c = ap (λ (s : OracleState). s.asks) c.answer_by.ensures.rest ∙ ap (λ (s : OracleState). s.asks) (c.self.view_is ∙ c.begin.ensures)

pub returns-in-Some-clause-spent : goal.returns-in-Some-clause-spent
returns-in-Some-clause-spent g c =
    let began = c.self.view_is ∙ c.begin.ensures in
    IsSpent-known c.args.self.now c.answer_by.new.self c.args.purse.now.left (ap (λ (s : OracleState). s.problem) c.answer_by.ensures.rest ∙ ap (λ (s : OracleState). s.problem) began)
    (ap (λ (s : OracleState). s.log) c.answer_by.ensures.rest ∙ ap (λ (s : OracleState). s.log) began)

pub returns-in-Some-clause-honest : goal.returns-in-Some-clause-honest
returns-in-Some-clause-honest g c = subst (λ (s : OracleState). IsHonestOver s.problem s.log) (sym c.answer_by.ensures.rest) c.self.invariant.honest

-- an answer of a satisfied set, or of a repair, leaves problem and log too, and nothing is refuted
pub returns-in-Some-satisfying-clause-refuted : goal.returns-in-Some-satisfying-clause-refuted
returns-in-Some-satisfying-clause-refuted g c = ap (λ (s : OracleState). s.refuted) (c.self.view_is ∙ c.begin.ensures)

pub returns-in-Some-satisfying-clause-asks : goal.returns-in-Some-satisfying-clause-asks
returns-in-Some-satisfying-clause-asks g c = ap (λ (s : OracleState). s.asks) (c.self.view_is ∙ c.begin.ensures)

pub returns-in-Some-satisfying-clause-spent : goal.returns-in-Some-satisfying-clause-spent
returns-in-Some-satisfying-clause-spent g c =
    let began = c.self.view_is ∙ c.begin.ensures in
    IsSpent-known _ _ c.args.purse.now.left (ap (λ (s : OracleState). s.problem) began) (ap (λ (s : OracleState). s.log) began)

pub returns-in-Some-satisfying-clause-honest : goal.returns-in-Some-satisfying-clause-honest
returns-in-Some-satisfying-clause-honest g c = c.self.invariant.honest

pub returns-in-Some-repaired-clause-refuted : goal.returns-in-Some-repaired-clause-refuted
returns-in-Some-repaired-clause-refuted g c = ap (λ (s : OracleState). s.refuted) (c.self.view_is ∙ c.begin.ensures)

pub returns-in-Some-repaired-clause-asks : goal.returns-in-Some-repaired-clause-asks
returns-in-Some-repaired-clause-asks g c = ap (λ (s : OracleState). s.asks) (c.self.view_is ∙ c.begin.ensures)

pub returns-in-Some-repaired-clause-spent : goal.returns-in-Some-repaired-clause-spent
returns-in-Some-repaired-clause-spent g c =
    let began = c.self.view_is ∙ c.begin.ensures in
    IsSpent-known _ _ c.args.purse.now.left (ap (λ (s : OracleState). s.problem) began) (ap (λ (s : OracleState). s.log) began)

pub returns-in-Some-repaired-clause-honest : goal.returns-in-Some-repaired-clause-honest
returns-in-Some-repaired-clause-honest g c = c.self.invariant.honest
