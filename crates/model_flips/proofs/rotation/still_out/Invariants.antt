use Rattle.std.proofs.Common.{◌≡◌, ◌⊎◌, ℕ, true}
use Rattle.gm_base.specs.Sets.{has}
use Rattle.gm_base.specs.Index.{group_true}
use Rattle.model_flips.proofs.rotation.still_out.Given as goal

-- what was taken out is true
abbrev pub invariant-loop-group : goal.invariant-loop-group
invariant-loop-group l = (g : ℕ) → has l.out g ≡ true → (has l.left g ≡ true) ⊎ (group_true l.problem.clauses l.values g ≡ true)
