-- Work that is done from the greatest number down.
use Rattle.std.specs.Prelude.{◌≡◌, ◌≢◌, ◌⊎◌, ◌↔◌, ℕ, ◌≤◌, List, [], Option, Some, None}
use Rattle.sat_base.specs.Members.{In}

-- the same numbers and one more
abbrev pub HasMore : List ℕ → List ℕ → ℕ → Type 0
HasMore old new n = (m : ℕ) → In m new ↔ ((m ≡ n) ⊎ In m old)

-- no number is above this one
abbrev pub IsUpperBoundOf : List ℕ → ℕ → Type 0
IsUpperBoundOf numbers n = (m : ℕ) → In m numbers → m ≤ n

-- the greatest of these numbers
pub record IsGreatest (numbers : List ℕ) (n : ℕ) : Type 0 where
  pub has : In n numbers
  pub above : IsUpperBoundOf numbers n

-- all that equals this number was taken out
abbrev pub LosesCopies : List ℕ → List ℕ → ℕ → Type 0
LosesCopies old new n = (m : ℕ) → In m new ↔ (In m old × (m ≢ n))

-- the greatest number, or that there is none
abbrev pub TellsGreatest : List ℕ → Option ℕ → Type 0
TellsGreatest numbers (Some n) = IsGreatest numbers n
TellsGreatest numbers None = numbers ≡ []

-- the greatest number was taken out, wherever it stood, or there was none
abbrev pub TakesGreatest : List ℕ → List ℕ → Option ℕ → Type 0
TakesGreatest old new (Some n) = IsGreatest old n × LosesCopies old new n
TakesGreatest old new None = (old ≡ []) × (new ≡ [])
