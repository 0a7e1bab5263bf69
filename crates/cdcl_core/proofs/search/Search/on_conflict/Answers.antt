use Rattle.std.proofs.Common.{List, inl, arith, subst}
use Rattle.lrat_steps.specs.Log.{LogStep}
use Rattle.cdcl_core.specs.Answers.{IsHonestlyPaid}
use Rattle.cdcl_core.proofs.StateLemmas.{dry_of, paid_join}
use Rattle.cdcl_core.proofs.search.Search.on_conflict.Goals as goal

-- the trail is the list of literals with a choice that makes the clause false
pub returns-then-purse-eq0-clause-round : goal.returns-then-purse-eq0-clause-round
returns-then-purse-eq0-clause-round c =
    let s = c.args.self.now in
    record {
      search = c.requires.search;
      says = (
        c.if-purse-eq0.true,
        dry_of s.trail.vars s.store.clauses s.log s.trail.entries c.args.assumed.now s.assumed_levels c.args.id c.requires.search.state c.requires.falsified (omega (arith, c.top.ensures, c.if-top-self.false)),
      );
      greatest = λ asked none. tt;
    }

-- the unit is paid, and a restart and forgetting keep what the search needs
pub returns-clause-round : goal.returns-clause-round
returns-clause-round c =
    let unit = c.in_ok-learn_from.ensures.unit in
    let assumed = c.args.assumed.now in
    record {
      search = c.in_ok-forget_at_restart.ensures.search assumed (c.count_conflict.ensures.search assumed c.in_ok-learn_from.ensures.search);
      progress = inl (omega (arith, unit));
    }

pub forget_at_restart-requires : goal.forget_at_restart-requires
forget_at_restart-requires c = record {
  ready = record { assumed = c.args.assumed.now; search = c.count_conflict.ensures.search c.args.assumed.now c.in_ok-learn_from.ensures.search };
}

-- only the clause was paid for
pub returns-in_err-forget_at_restart-clause-paid : goal.returns-in_err-forget_at_restart-clause-paid
returns-in_err-forget_at_restart-clause-paid c =
    let left = c.learn_from.new.purse.left in
    paid_join c.args.self.now.log c.learn_from.new.self.log c.forget_at_restart.new.self.log c.args.purse.now.left left left c.learn_from.ensures.paid
    (subst (λ (log : List LogStep). IsHonestlyPaid log c.forget_at_restart.new.self.log left left) c.count_conflict.ensures.log (c.forget_at_restart.ensures.paid left))

pub returns-clause-paid : goal.returns-clause-paid
returns-clause-paid c =
    let left = c.learn_from.new.purse.left in
    paid_join c.args.self.now.log c.learn_from.new.self.log c.forget_at_restart.new.self.log c.args.purse.now.left left left c.learn_from.ensures.paid
    (subst (λ (log : List LogStep). IsHonestlyPaid log c.forget_at_restart.new.self.log left left) c.count_conflict.ensures.log (c.forget_at_restart.ensures.paid left))

-- a core costs nothing
pub returns-in_err-core-clause-paid : goal.returns-in_err-core-clause-paid
returns-in_err-core-clause-paid c = c.refute.ensures.paid c.args.purse.now.left
