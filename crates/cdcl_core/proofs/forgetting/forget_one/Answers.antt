use Rattle.std.proofs.Common.{◌∙◌, List, length, ap, sym, subst, arith}
use Rattle.sat_base.specs.Database.{StoredClause}
use Rattle.sat_base.specs.Forgotten.{forgotten}
use Rattle.sat_base.proofs.ForgottenLemmas.{length-forgotten}
use Rattle.clause_store.specs.Clauses.{Clauses}
use Rattle.lrat_steps.specs.Log.{LogStep}
use Rattle.lrat_steps.proofs.LogLemmas.{db_len}
use Rattle.propagate.proofs.RebuildLemmas.{stale_forgotten}
use Rattle.cdcl_core.specs.Answers.{IsHonestlyPaid}
use Rattle.cdcl_core.specs.State.{IsRoot}
use Rattle.cdcl_core.proofs.ForgetLemmas.{root_forgotten, paid_forgot}
use Rattle.cdcl_core.proofs.forgetting.forget_one.Goals as goal

-- the id of a step is that of its clause
pub forget-requires-2 : goal.forget-requires-2
forget-requires-2 c =
    let s = c.args.search.now in
    let is = c.requires.idle.may_go.live in
    let high = is.within in
    let len = db_len s.log in
    let same = ap length c.requires.stale.root.state.recorded.same in
    record { from_one = is.from_one; within = omega arith }

pub returns-clause-stale : goal.returns-clause-stale
returns-clause-stale c =
    let s = c.args.search.now in
    let id = c.args.id in
    let new = c.forget-2.new.self in
    record {
      vars = ap (λ (x : Clauses). x.vars) c.forget-2.ensures.rest ∙ c.requires.stale.vars;
      stale = stale_forgotten s.store new s.trail id c.requires.stale.stale c.requires.idle.may_go.live.from_one c.requires.idle.apart c.forget-2.ensures.clauses c.forget-2.ensures.rest;
      root = subst (λ (db : List StoredClause). IsRoot s.trail.vars db c.forget.new.self s.trail.entries) (sym c.forget-2.ensures.clauses)
          (subst (λ (log : List LogStep). IsRoot s.trail.vars (forgotten s.store.clauses id) log s.trail.entries) (sym c.in_ok-forget.ensures.ok)
          (root_forgotten s.trail.vars s.store.clauses s.log s.trail.entries id c.requires.stale.root c.requires.idle.may_go c.requires.idle.untrue));
    }

-- a mark costs nothing
pub returns-clause-paid : goal.returns-clause-paid
returns-clause-paid c = λ left.
    let s = c.args.search.now in
    let root = root_forgotten s.trail.vars s.store.clauses s.log s.trail.entries c.args.id c.requires.stale.root c.requires.idle.may_go c.requires.idle.untrue in
    subst (λ (log : List LogStep). IsHonestlyPaid s.log log left left) (sym c.in_ok-forget.ensures.ok) (paid_forgot s.log c.args.id left root.state.recorded.honest)

pub returns-clause-len : goal.returns-clause-len
returns-clause-len c = ap length c.forget-2.ensures.clauses ∙ length-forgotten c.args.search.now.store.clauses c.args.id
