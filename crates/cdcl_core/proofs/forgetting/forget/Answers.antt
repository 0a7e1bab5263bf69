use Rattle.std.proofs.Common.{◌∙◌, List, [], subst}
use Rattle.propagate.proofs.RebuildLemmas.{stale_kept}
use Rattle.lrat_steps.specs.Log.{LogStep}
use Rattle.cdcl_core.specs.Answers.{IsHonestlyPaid}
use Rattle.cdcl_core.proofs.ForgetLemmas.{search_rebuilt}
use Rattle.cdcl_core.proofs.forgetting.forget.Goals as goal

pub limit_of-requires : goal.limit_of-requires
limit_of-requires c =
    let s = c.to_root.new.self in
    let at = c.to_root.ensures.at_root in
    record { vars = at.vars; stale = stale_kept s.store s.trail at.kept; root = at.root }

pub forget_poor-requires : goal.forget_poor-requires
forget_poor-requires c =
    let s = c.to_root.new.self in
    let at = c.to_root.ensures.at_root in
    record { stale = record { vars = at.vars; stale = stale_kept s.store s.trail at.kept; root = at.root } }

-- with the lists built anew, a search for anything can begin
pub returns-clause-ready : goal.returns-clause-ready
returns-clause-ready c =
    let s = c.forget_poor.new.search in
    record {
      assumed = [];
      search = search_rebuilt s c.rebuild.new.store c.learned-learned.result [] c.in_ok-forget_poor.ensures.stale c.rebuild.ensures.kept c.rebuild.ensures.clauses
          (c.forget_poor.ensures.levels ∙ c.to_root.ensures.levels) (c.forget_poor.ensures.reached ∙ c.to_root.ensures.reached);
    }

-- this one, too
pub returns-clause-search : goal.returns-clause-search
returns-clause-search c = λ assumed search.
    search_rebuilt c.forget_poor.new.search c.rebuild.new.store c.learned-learned.result assumed c.in_ok-forget_poor.ensures.stale c.rebuild.ensures.kept c.rebuild.ensures.clauses
    (c.forget_poor.ensures.levels ∙ c.to_root.ensures.levels) (c.forget_poor.ensures.reached ∙ c.to_root.ensures.reached)

-- to go back costs nothing
pub returns-in_err-forget_poor-clause-paid : goal.returns-in_err-forget_poor-clause-paid
returns-in_err-forget_poor-clause-paid c = λ left. subst (λ (log : List LogStep). IsHonestlyPaid log c.forget_poor.new.search.log left left) c.to_root.ensures.log (c.forget_poor.ensures.paid left)

pub returns-clause-paid : goal.returns-clause-paid
returns-clause-paid c = λ left. subst (λ (log : List LogStep). IsHonestlyPaid log c.forget_poor.new.search.log left left) c.to_root.ensures.log (c.forget_poor.ensures.paid left)
