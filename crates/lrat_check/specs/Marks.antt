-- Literals marked in a table.
use Rattle.std.specs.Prelude.{◌≡◌, ℕ, ◌+◌, ◌*◌, ◌<◌, Bool, false, not, List, length, All, ℤ, pos, negsuc, neg_ℤ, slice_index_or}
use Rattle.std.specs.List.{filter}
use Rattle.sat_base.specs.Derivation.{contains_lit}

-- each variable has two places
abbrev pub place_of : ℤ → ℕ
place_of (pos n) = 2 * n
place_of (negsuc n) = 2 * n + 3

abbrev pub is_marked : List Bool → ℤ → Bool
is_marked marks l = slice_index_or marks (place_of l) false

-- the literals of a clause that are not marked
abbrev pub unmarked : List Bool → List ℤ → List ℤ
unmarked marks clause = filter (λ l. not (is_marked marks l)) clause

-- the table has a place for each literal over the variables
abbrev pub HasPlaces : ℕ → List Bool → Type 0
HasPlaces vars marks = length marks ≡ 2 * vars + 2

-- the table has places for these literals and their negations
abbrev pub HavePlaces : List Bool → List ℤ → Type 0
HavePlaces marks lits = All (λ l. (place_of l < length marks) × (place_of (neg_ℤ l) < length marks)) lits

-- just these literals are marked
abbrev pub AreMarked : List Bool → List ℤ → Type 0
AreMarked marks lits = (l : ℤ) → is_marked marks l ≡ contains_lit lits l
