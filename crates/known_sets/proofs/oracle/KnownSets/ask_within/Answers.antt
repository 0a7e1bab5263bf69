use Rattle.std.proofs.Common.{ap, sym, subst}
use Rattle.gm_base.specs.Problem.{Problem, IsProblem}
use Rattle.evidence_rec.specs.Asking.{OracleState, TellsAsked, IsSpent}
use Rattle.known_sets.specs.Memory.{IsRightFor}
use Rattle.known_sets.specs.Inside.{state_of}
use Rattle.known_sets.proofs.OracleLemmas.{tells-within}
use Rattle.known_sets.proofs.oracle.KnownSets.ask_within.Goals as goal

-- what is remembered is what the oracle within told
pub remembered-requires-clause-refuted : goal.remembered-requires-clause-refuted
remembered-requires-clause-refuted g c = c.in_ok-answer.ensures.refuted

pub remembered-requires-clause-satisfied : goal.remembered-requires-clause-satisfied
remembered-requires-clause-satisfied g c = λ assign is.
    subst (TellsAsked (g.O.Oracle.state c.ask.new.self) c.args.set.now c.ask.new.purse.left) is c.in_ok-answer.ensures.answer

-- what was right stays so, since the problem stays
pub invariant_of-self-2 : goal.invariant_of-self-2
invariant_of-self-2 g c =
    let same = sym c.in_ok-answer.ensures.spent.problem in
    record {
      well_formed = subst IsProblem same c.self.invariant.well_formed;
      honest = c.in_ok-answer.ensures.honest;
      right = c.remembered.ensures.right (subst (λ (p : Problem). IsRightFor p c.self.inside.memory) same c.self.invariant.right);
      proved = c.remembered.ensures.proved;
    }

-- the answer is that of the oracle within, and so is what it costs
pub returns-clause-answer : goal.returns-clause-answer
returns-clause-answer g c =
    tells-within (g.O.Oracle.state c.ask.new.self) c.remembered.result c.self.inside.asks c.args.set.now c.ask.new.purse.left c.in_ok-answer.answer c.in_ok-answer.ensures.answer

pub returns-clause-refuted : goal.returns-clause-refuted
returns-clause-refuted g c = c.remembered.ensures.set

pub returns-clause-asks : goal.returns-clause-asks
returns-clause-asks g c = ap (λ (s : OracleState). s.asks) c.self.view_is

pub returns-clause-spent : goal.returns-clause-spent
returns-clause-spent g c =
    subst (λ (s : OracleState). IsSpent s (state_of (g.O.Oracle.state c.ask.new.self) c.remembered.result c.self.inside.asks) c.args.purse.now.left c.ask.new.purse.left) c.self.view_is
    (record { problem = c.in_ok-answer.ensures.spent.problem; paid = c.in_ok-answer.ensures.spent.paid })

pub returns-clause-honest : goal.returns-clause-honest
returns-clause-honest g c = c.in_ok-answer.ensures.honest
