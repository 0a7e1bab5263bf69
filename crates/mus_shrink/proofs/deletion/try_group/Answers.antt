use Rattle.std.proofs.Common.{◌≡◌, Bool, true, not, Some, List, [], ◌∷◌, ◌++◌, subst, sym, ap, ◌∙◌, eqb}
use Rattle.gm_base.specs.Sets.{IsSubset, has, all_groups, without}
use Rattle.gm_base.specs.Problem.{Problem}
use Rattle.gm_base.proofs.SetLemmas.{AscendsAbove-filter}
use Rattle.evidence_rec.specs.Asking.{TellsAsked, IsDryAt, refuted_by}
use Rattle.mus_shrink.specs.Candidate.{IsCandidate}
use Rattle.mus_shrink.proofs.CandidateLemmas.{IsSubset-from_without, candidate-critical, candidate-core}
use Rattle.mus_shrink.proofs.deletion.try_group.Goals as goal

pub returns-in_ok-rest-in-Dry-clause-tried : goal.returns-in_ok-rest-in-Dry-clause-tried
returns-in_ok-rest-in-Dry-clause-tried g c =
    let new = g.O.Oracle.state c.ask_without.new.self in
    let set = c.args.candidate.now.set in
    let answer = subst (TellsAsked new (without set c.args.g) c.ask_without.new.purse.left) c.in-Dry.is c.in_ok-witness.ensures.answer in
    let inside : IsSubset (without set c.args.g) (all_groups (g.O.Oracle.state c.args.oracle.now).problem.groups) =
    λ h i. c.requires.within h (IsSubset-from_without set c.args.g h i) in
    subst (λ r. IsDryAt new r c.ask_without.new.purse.left) (sym c.in_ok-rest-in-Dry.ensures)
    (record {
      is_set = AscendsAbove-filter (λ h. not (eqb h c.args.g)) 0 set c.requires.is_set;
      within = subst (λ (p : Problem). IsSubset (without set c.args.g) (all_groups p.groups)) (sym c.ask_without.ensures.spent.problem) inside;
      empty = answer.0;
      undecided = answer.1;
    })

-- the group is critical
pub returns-in_ok-push-in-Sat-clause-tried : goal.returns-in_ok-push-in-Sat-clause-tried
returns-in_ok-push-in-Sat-clause-tried g c set tried h =
    let new = g.O.Oracle.state c.ask_without.new.self in
    let old = c.args.candidate.now in
    let inside : has old.set c.args.g ≡ true = cc in
    let answer = subst (TellsAsked new (without old.set c.args.g) c.ask_without.new.purse.left) c.in-Sat.is c.in_ok-witness.ensures.answer in
    subst (λ (ws : List (List Bool)). IsCandidate new.problem set (tried ++ c.args.g ∷ []) (record old { witnesses = ws })) (sym c.in_ok-push-in-Sat.ensures.ok)
    (candidate-critical new.problem set tried old c.args.g c.in-Sat.witness inside answer h)

-- the core takes the set's place
pub returns-in_ok-proof-in-Unsat-clause-tried : goal.returns-in_ok-proof-in-Unsat-clause-tried
returns-in_ok-proof-in-Unsat-clause-tried g c set tried h =
    let new = g.O.Oracle.state c.ask_without.new.self in
    let core = c.in-Unsat.core in
    let answer = subst (TellsAsked new (without c.args.candidate.now.set c.args.g) c.ask_without.new.purse.left) c.in-Unsat.is c.in_ok-witness.ensures.answer in
    let refuted : new.refuted ≡ Some core = c.in_ok-witness.ensures.refuted ∙ ap refuted_by c.in-Unsat.is in
    candidate-core new.problem set tried c.args.candidate.now c.args.g core c.in_ok-proof-in-Unsat.proof answer.0 answer.1 answer.2 (c.in_ok-proof-in-Unsat.ensures core refuted) h
