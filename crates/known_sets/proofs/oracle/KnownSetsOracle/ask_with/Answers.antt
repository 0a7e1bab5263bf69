use Rattle.std.proofs.Common.{◌∙◌, ap, sym, subst}
use Rattle.gm_base.specs.Sets.{with_group}
use Rattle.evidence_rec.specs.Asking.{OracleState, IsHonestOver}
use Rattle.evidence_rec.proofs.WithLemmas.{with_group-positive}
use Rattle.known_sets.proofs.OracleLemmas.{IsSpent-known, asked_once-within, OnOk-always}
use Rattle.known_sets.proofs.oracle.KnownSetsOracle.ask_with.Goals as goal

-- it is refuted, and nothing else is left for a proof
pub answer_by-requires-clause-refuted : goal.answer_by-requires-clause-refuted
answer_by-requires-clause-refuted g c = c.in-Some.ensures.refuted (g.O.Oracle.state c.self.inside.oracle).problem c.self.invariant.right

pub answer_by-requires-clause-none : goal.answer_by-requires-clause-none
answer_by-requires-clause-none g c = ap (λ (s : OracleState). s.refuted) (c.self.view_is ∙ c.begin.ensures)

-- what is known is a part of the set with the group
pub returns-in-Some-clause-answer : goal.returns-in-Some-clause-answer
returns-in-Some-clause-answer g c = c.answer_by.ensures.answer (with_group c.args.set.now c.args.group) c.args.purse.now.left c.in-Some.ensures.within

-- problem and log stay, and the question is counted
pub returns-in-Some-clause-asks : goal.returns-in-Some-clause-asks
returns-in-Some-clause-asks g c =
    OnOk-always c.answer_by.result (ap (λ (s : OracleState). s.asks) c.answer_by.ensures.rest ∙ ap (λ (s : OracleState). s.asks) (c.self.view_is ∙ c.begin.ensures))

pub returns-in-Some-clause-at_most_once : goal.returns-in-Some-clause-at_most_once
returns-in-Some-clause-at_most_once g c =
    asked_once-within c.answer_by.new.self.asks c.args.self.now.asks
    (ap (λ (s : OracleState). s.asks) c.answer_by.ensures.rest ∙ ap (λ (s : OracleState). s.asks) (c.self.view_is ∙ c.begin.ensures))

pub returns-in-Some-clause-spent : goal.returns-in-Some-clause-spent
returns-in-Some-clause-spent g c =
    let began = c.self.view_is ∙ c.begin.ensures in
    IsSpent-known c.args.self.now c.answer_by.new.self c.args.purse.now.left (ap (λ (s : OracleState). s.problem) c.answer_by.ensures.rest ∙ ap (λ (s : OracleState). s.problem) began)
    (ap (λ (s : OracleState). s.log) c.answer_by.ensures.rest ∙ ap (λ (s : OracleState). s.log) began)

pub returns-in-Some-clause-honest : goal.returns-in-Some-clause-honest
returns-in-Some-clause-honest g c = λ before. subst (λ (s : OracleState). IsHonestOver s.problem s.log) (sym c.answer_by.ensures.rest) c.self.invariant.honest

-- the group is one of the problem's
pub with-requires : goal.with-requires
with-requires g c = with_group-positive _ c.args.set.now c.args.group c.requires

-- an answer of a satisfied set, or of a repair, leaves problem and log too, and nothing is refuted
pub returns-in-Some-satisfying-clause-refuted : goal.returns-in-Some-satisfying-clause-refuted
returns-in-Some-satisfying-clause-refuted g c = ap (λ (s : OracleState). s.refuted) (c.self.view_is ∙ c.begin.ensures)

pub returns-in-Some-satisfying-clause-asks : goal.returns-in-Some-satisfying-clause-asks
returns-in-Some-satisfying-clause-asks g c = ap (λ (s : OracleState). s.asks) (c.self.view_is ∙ c.begin.ensures)

pub returns-in-Some-satisfying-clause-at_most_once : goal.returns-in-Some-satisfying-clause-at_most_once
returns-in-Some-satisfying-clause-at_most_once g c = asked_once-within _ c.args.self.now.asks (ap (λ (s : OracleState). s.asks) (c.self.view_is ∙ c.begin.ensures))

pub returns-in-Some-satisfying-clause-spent : goal.returns-in-Some-satisfying-clause-spent
returns-in-Some-satisfying-clause-spent g c =
    let began = c.self.view_is ∙ c.begin.ensures in
    IsSpent-known _ _ c.args.purse.now.left (ap (λ (s : OracleState). s.problem) began) (ap (λ (s : OracleState). s.log) began)

pub returns-in-Some-satisfying-clause-honest : goal.returns-in-Some-satisfying-clause-honest
returns-in-Some-satisfying-clause-honest g c = λ before. c.self.invariant.honest

pub returns-in-Some-repaired_from-clause-refuted : goal.returns-in-Some-repaired_from-clause-refuted
returns-in-Some-repaired_from-clause-refuted g c = ap (λ (s : OracleState). s.refuted) (c.self.view_is ∙ c.begin.ensures)

pub returns-in-Some-repaired_from-clause-asks : goal.returns-in-Some-repaired_from-clause-asks
returns-in-Some-repaired_from-clause-asks g c = ap (λ (s : OracleState). s.asks) (c.self.view_is ∙ c.begin.ensures)

pub returns-in-Some-repaired_from-clause-at_most_once : goal.returns-in-Some-repaired_from-clause-at_most_once
returns-in-Some-repaired_from-clause-at_most_once g c = asked_once-within _ c.args.self.now.asks (ap (λ (s : OracleState). s.asks) (c.self.view_is ∙ c.begin.ensures))

pub returns-in-Some-repaired_from-clause-spent : goal.returns-in-Some-repaired_from-clause-spent
returns-in-Some-repaired_from-clause-spent g c =
    let began = c.self.view_is ∙ c.begin.ensures in
    IsSpent-known _ _ c.args.purse.now.left (ap (λ (s : OracleState). s.problem) began) (ap (λ (s : OracleState). s.log) began)

pub returns-in-Some-repaired_from-clause-honest : goal.returns-in-Some-repaired_from-clause-honest
returns-in-Some-repaired_from-clause-honest g c = λ before. c.self.invariant.honest
