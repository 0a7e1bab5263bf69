use Rattle.std.proofs.Common.{◌≡◌, ◌∙◌, List, ap, sym, subst, arith}
use Rattle.std.specs.Prelude.{ℤ}
use Rattle.sat_base.specs.Members.{In}
use Rattle.clause_store.specs.Links.{link_of}
use Rattle.lrat_steps.specs.Log.{learned_count}
use Rattle.lrat_steps.specs.Forgetting.{MayForget}
use Rattle.cdcl_core.proofs.ForgetLemmas.{step_within, forgettable_of}
use Rattle.cdcl_core.proofs.forgetting.may_go.Goals as goal

-- the id of a clause is that of a step
pub kind-requires-clause-within : goal.kind-requires-clause-within
kind-requires-clause-within c =
    let s = c.args.search.now in
    step_within s.trail.vars s.store.clauses s.log c.args.id c.requires.stale.root.state.recorded c.requires.id

pub returns : goal.returns
returns c = λ e.
    let s = c.args.search.now in
    let low = c.requires.id.from_one in
    let none : 0 ≡ s.store.false_id = sym (ap link_of c.in-None.is) ∙ c.false_id.ensures.id in
    record {
      may_go = forgettable_of s.trail.vars s.store.clauses s.log c.args.id c.requires.stale.root.state.recorded c.requires.id (sym c.is_live.ensures ∙ c.if-not-is_live.false) (sym c.kind.ensures ∙ c.in-Learned.is)
          (subst (λ n. MayForget n (learned_count s.log)) c.live_learned.ensures (subst (λ n. MayForget c.live_learned.result n) c.learned.ensures (c.may_forget.ensures.0 c.if-not-may_forget.false)));
      apart = λ same. absurd (omega arith);
      untrue = λ l i. c.is_untrue.ensures e l (subst (λ (ls : List ℤ). In l ls) (sym c.lits.ensures.lits) i);
    }
