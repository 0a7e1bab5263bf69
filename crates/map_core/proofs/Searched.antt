-- What an engine's calls do to the number of learnt clauses.
use Rattle.std.proofs.Common.{◌≡◌, ℕ, ◌+◌, ◌-◌, ◌≤◌, List, [], ◌∷◌, ◌++◌, refl, ap}
use Rattle.lrat_steps.specs.Log.{LogStep, Input, Learned, Core, Forgot, learned_count}
use Rattle.lrat_steps.proofs.PaidLemmas.{left-within, learned-used}
use Rattle.gm_base.specs.Explored.{Found, block_clause}
use Rattle.evidence_rec.specs.Seeding.{EngineState, blocked, IsSearched}

pub left_within : {old new : EngineState} {before left : ℕ} → IsSearched old new before left → left ≤ before
left_within s = left-within s.paid

-- what was used was learnt
pub used_learned : {old new : EngineState} {before left : ℕ} → IsSearched old new before left
    → learned_count new.log ≡ learned_count old.log + (before - left)
used_learned s = learned-used s.paid

-- a block is no learnt clause
pub learned_blocked : (e : EngineState) (f : Found) → learned_count (blocked e f).log ≡ learned_count e.log
learned_blocked e f = at e.log
  where
    at : (log : List LogStep) → learned_count (log ++ Input (block_clause f) ∷ []) ≡ learned_count log
    at [] = refl
    at (Input lits ∷ log) = at log
    at (Learned lits hints ∷ log) = ap (λ n. n + 1) (at log)
    at (Core lits hints ∷ log) = at log
    at (Forgot id ∷ log) = at log
