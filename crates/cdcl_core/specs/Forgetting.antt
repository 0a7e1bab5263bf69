-- What is kept while learnt clauses are forgotten, and which may be.
use Rattle.std.specs.Prelude.{◌≡◌, ◌≢◌, ℕ, ℤ}
use Rattle.sat_base.specs.Members.{In}
use Rattle.clause_store.specs.Clauses.{clause_at}
use Rattle.trail_book.specs.Trail.{trues}
use Rattle.propagate.specs.Rebuild.{IsStale}
use Rattle.lrat_steps.specs.Forgetting.{IsForgettable}
use Rattle.cdcl_core.specs.declared.search.Search.{Search}
use Rattle.cdcl_core.specs.State.{IsRoot}

-- the state at level 0, but for the lists of the watches
pub record IsStaleAtRoot (s : Search) : Type 0 where
  pub vars : s.store.vars ≡ s.trail.vars
  pub stale : IsStale s.store s.trail
  pub root : IsRoot s.trail.vars s.store.clauses s.log s.trail.entries

-- a learnt clause that may be forgotten here, and forces nothing: none of its literals is true
pub record IsIdle (s : Search) (id : ℕ) : Type 0 where
  pub may_go : IsForgettable s.log id
  pub apart : id ≢ s.store.false_id
  pub untrue : (lit : ℤ) → In lit (clause_at s.store.clauses id).lits → ¬ In lit (trues s.trail.entries)
