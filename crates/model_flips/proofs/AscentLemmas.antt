-- Lemmas on lists that ascend, made by adding at their end.
use Rattle.std.proofs.Common.{ℕ, ◌≤◌, ◌<◌, List, [], ◌∷◌, ◌++◌, arith}
use Rattle.gm_base.specs.Sets.{AscendsAbove}

-- strictly ascending above the one number, up to the other
abbrev pub AscendsTo : ℕ → ℕ → List ℕ → Type 0
AscendsTo low high [] = low ≤ high
AscendsTo low high (g ∷ gs) = (low < g) × AscendsTo g high gs

-- with a greater one at its end
pub AscendsTo-push : (low high g : ℕ) (gs : List ℕ) → high < g → AscendsTo low high gs → AscendsTo low g (gs ++ g ∷ [])
AscendsTo-push low high g [] above h = (omega (arith, above, h), omega arith)
AscendsTo-push low high g (x ∷ gs) above h = (h.0, AscendsTo-push x high g gs above h.1)

-- up to a greater number
pub AscendsTo-more : (low high more : ℕ) (gs : List ℕ) → high ≤ more → AscendsTo low high gs → AscendsTo low more gs
AscendsTo-more low high more [] above h = omega (arith, above, h)
AscendsTo-more low high more (x ∷ gs) above h = (h.0, AscendsTo-more x high more gs above h.1)

pub AscendsTo-ascends : (low high : ℕ) (gs : List ℕ) → AscendsTo low high gs → AscendsAbove low gs
AscendsTo-ascends low high [] h = tt
AscendsTo-ascends low high (x ∷ gs) h = (h.0, AscendsTo-ascends x high gs h.1)
