-- Sets that grow at their end.
use Rattle.std.proofs.Common.{ℕ, ◌<◌, ◌≤◌, List, [], ◌∷◌, ◌++◌, arith}
use Rattle.gm_base.specs.Sets.{AscendsAbove}

-- ascending numbers above the lowest, none of them above the last
abbrev pub EndsBy : ℕ → ℕ → List ℕ → Type 0
EndsBy last low [] = low ≤ last
EndsBy last low (g ∷ gs) = (low < g) × EndsBy last g gs

-- one more above the last
pub EndsBy-push : (last low n : ℕ) (set : List ℕ) → EndsBy last low set → last < n → EndsBy n low (set ++ n ∷ [])
EndsBy-push last low n [] h above = (omega (arith, h, above), omega arith)
EndsBy-push last low n (g ∷ gs) h above = (h.0, EndsBy-push last g n gs h.1 above)

pub AscendsAbove-push : (last low n : ℕ) (set : List ℕ) → EndsBy last low set → last < n → AscendsAbove low (set ++ n ∷ [])
AscendsAbove-push last low n [] h above = (omega (arith, h, above), tt)
AscendsAbove-push last low n (g ∷ gs) h above = (h.0, AscendsAbove-push last g n gs h.1 above)
