-- Lists of watches that are threaded through their clauses.
use Rattle.std.specs.Prelude.{◌≡◌, ◌≢◌, ℕ, ◌/◌, List, [], ◌∷◌}
use Rattle.sat_base.specs.Members.{In}

-- the two watches of one clause
pub record IsPair (n m : ℕ) : Type 0 where
  pub same : n / 2 ≡ m / 2
  pub differ : n ≢ m

-- no watch stands twice
abbrev pub IsApart : List ℕ → Type 0
IsApart [] = Unit {0}
IsApart (n ∷ ns) = (¬ In n ns) × IsApart ns

-- from the link one comes to these watches, in this order, and to the end
abbrev pub IsChain : (ℕ → ℕ) → ℕ → List ℕ → Type 0
IsChain next link [] = link ≡ 0
IsChain next link (n ∷ ns) = (link ≡ n / 2) × IsChain next (next n) ns

-- the last of them, or `before` where there are none
abbrev pub last_of : ℕ → List ℕ → ℕ
last_of before [] = before
last_of before (n ∷ ns) = last_of n ns
