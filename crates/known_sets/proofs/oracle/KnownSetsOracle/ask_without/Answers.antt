use Rattle.std.proofs.Common.{◌≡◌, subst, sym, ap, ◌∙◌}
use Rattle.gm_base.specs.Sets.{has, all_groups, IsSubset}
use Rattle.gm_base.specs.Problem.{Problem}
use Rattle.evidence_rec.specs.Asking.{OracleState}
use Rattle.known_sets.proofs.OracleLemmas.{IsSpent-known, asked_once-within}
use Rattle.known_sets.proofs.MemoryLemmas.{IsSubset-without_one}
use Rattle.known_sets.proofs.oracle.KnownSetsOracle.ask_without.Goals as goal

-- what is left of a set of the problem's groups is one
pub ask_within-requires-clause-within : goal.ask_within-requires-clause-within
ask_within-requires-clause-within g c h i =
    let p = (g.O.Oracle.state c.self.inside.oracle).problem in
    let same : p ≡ c.args.self.now.problem = ap (λ (s : OracleState). s.problem) (c.self.view_is ∙ c.begin.ensures) in
    let within : IsSubset c.args.set.now (all_groups p.groups) = subst (λ (q : Problem). IsSubset c.args.set.now (all_groups q.groups)) (sym same) c.requires in
    IsSubset-without_one p.groups c.args.set.now c.args.group within h (sym (ap (λ r. has r h) c.in_ok-rest.ensures) ∙ i)

-- an answer from memory leaves problem and log, and the question is counted
pub returns-in-Some-clause-asks : goal.returns-in-Some-clause-asks
returns-in-Some-clause-asks g c = ap (λ (s : OracleState). s.asks) (c.self.view_is ∙ c.begin.ensures)

pub returns-in-Some-clause-at_most_once : goal.returns-in-Some-clause-at_most_once
returns-in-Some-clause-at_most_once g c = asked_once-within _ c.args.self.now.asks (ap (λ (s : OracleState). s.asks) (c.self.view_is ∙ c.begin.ensures))

pub returns-in-Some-clause-spent : goal.returns-in-Some-clause-spent
returns-in-Some-clause-spent g c =
    let began = c.self.view_is ∙ c.begin.ensures in
    IsSpent-known _ _ c.args.purse.now.left (ap (λ (s : OracleState). s.problem) began) (ap (λ (s : OracleState). s.log) began)

pub returns-in-Some-clause-honest : goal.returns-in-Some-clause-honest
returns-in-Some-clause-honest g c = λ before. c.self.invariant.honest

pub returns-in-Some-clause-refuted : goal.returns-in-Some-clause-refuted
returns-in-Some-clause-refuted g c = ap (λ (s : OracleState). s.refuted) (c.self.view_is ∙ c.begin.ensures)
