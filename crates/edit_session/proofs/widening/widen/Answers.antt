use Rattle.std.proofs.Common.{◌≡◌, sym, ◌∙◌, subst}
use Rattle.gm_base.specs.Sets.{IsSubset, all_groups}
use Rattle.gm_base.specs.Problem.{Problem}
use Rattle.evidence_rec.specs.Asking.{TellsAsked, IsHonestOver}
use Rattle.evidence_rec.proofs.AskingLemmas.{IsSpent-then}
use Rattle.edit_session.proofs.WideningLemmas.{stays, rest-within}
use Rattle.edit_session.proofs.widening.widen.Goals as goal

-- the start stays, and what the question cost is added
pub loop-at-preserved : goal.loop-at-preserved
loop-at-preserved g c =
    let new = g.O.Oracle.state c.ask.new.self in
    let p = c.args.new.now in
    let core = c.in-Unsat.core in
    let rest = c.in_ok-together-in-Unsat.together in
    let asked = c.in_ok-witness.ensures in
    let same : new.problem ≡ p = asked.spent.problem ∙ c.loop-at.invariant.spent.problem ∙ sym c.requires.problem in
    record {
      wider = stays c.args.old_groups core c.args.start.set c.loop-at.together rest c.in_ok-together-in-Unsat.ensures c.requires.old_start c.loop-at.invariant.wider;
      within = rest-within c.args.old_groups core c.loop-at.together rest (all_groups p.groups) c.in_ok-together-in-Unsat.ensures c.loop-at.invariant.within;
      honest = λ _. subst (λ (q : Problem). IsHonestOver q new.log) same asked.honest;
      spent =
          IsSpent-then (g.O.Oracle.state c.args.oracle.now) (g.O.Oracle.state c.loop-at.oracle) new c.args.purse.now.left c.loop-at.purse.left c.ask.new.purse.left c.loop-at.invariant.spent
          asked.spent;
    }

-- the set that was asked about has the start, and the answer satisfies it
pub returns-in-Sat-clause-widened : goal.returns-in-Sat-clause-widened
returns-in-Sat-clause-widened g c =
    let new = g.O.Oracle.state c.ask.new.self in
    let together = c.loop-at.together in
    let asked = c.in_ok-witness.ensures in
    let same : new.problem ≡ c.args.new.now = asked.spent.problem ∙ c.loop-at.invariant.spent.problem ∙ sym c.requires.problem in (
      c.loop-at.invariant.wider,
      subst (λ (q : Problem). IsSubset together (all_groups q.groups)) (sym same) c.loop-at.invariant.within,
      subst (TellsAsked new together c.ask.new.purse.left) c.in-Sat.is asked.answer,
    )
