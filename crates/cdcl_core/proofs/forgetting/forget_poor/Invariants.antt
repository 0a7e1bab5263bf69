use Rattle.std.proofs.Common.{◌≡◌, ◌-◌, ℕ, length}
use Rattle.cdcl_core.specs.Answers.{IsHonestlyPaid}
use Rattle.cdcl_core.specs.Forgetting.{IsStaleAtRoot}
use Rattle.cdcl_core.proofs.forgetting.forget_poor.Given as goal

-- clauses were forgotten, and all else is as it was
abbrev pub invariant-loop-id : goal.invariant-loop-id
invariant-loop-id l =
    record {
      stale : IsStaleAtRoot l.search;
      paid : (left : ℕ) → IsHonestlyPaid l.fn.search.log l.search.log left left;
      vars : l.search.trail.vars ≡ l.fn.search.trail.vars;
      touched : l.search.trail.touched ≡ l.fn.search.trail.touched;
      true_first : l.search.true_first ≡ l.fn.search.true_first;
      levels : l.search.assumed_levels ≡ l.fn.search.assumed_levels;
      reached : l.search.assumed_true ≡ l.fn.search.assumed_true;
    }

abbrev pub decreases-loop-id : goal.decreases-loop-id
decreases-loop-id l = length l.search.store.clauses - l.id
