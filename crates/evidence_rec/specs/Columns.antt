-- Assignments by columns: for each variable a word whose bit k is its value under assignment k. So 64 assignments are
-- looked at with one word a literal.
use Rattle.std.specs.Prelude.{◌≡◌, ℕ, ◌+◌, ◌/◌, ◌%◌, ◌<◌, Bool, true, false, ◌==◌, List, [], map, length, slice_index_or}
use Rattle.std.specs.Int.{bit_at}
use Rattle.gm_base.specs.Sets.{without}
use Rattle.gm_base.specs.Problem.{Problem, satisfies}
use Rattle.gm_base.specs.Evidence.{is_witness}

-- whether this bit of a word is set
abbrev pub is_set : ℕ → ℕ → Bool
is_set word k = bit_at word k == 1

-- a word for each assignment, with its values of this block of 64 variables as bits
abbrev pub AreWords : List (List Bool) → ℕ → List ℕ → Type 0
AreWords assigns block words =
    (length words ≡ length assigns)
    × ((k i : ℕ) → k < length assigns → i / 64 ≡ block → i < length (slice_index_or assigns k [])
    → slice_index_or (slice_index_or assigns k []) i false ≡ is_set (slice_index_or words k 0) (i % 64))

-- assignment k of the columns
abbrev pub assignment : List ℕ → ℕ → List Bool
assignment columns k = map (λ word. is_set word k) columns

-- the columns are those of the assignments
abbrev pub AreColumns : List (List Bool) → List ℕ → Type 0
AreColumns assigns columns = (k : ℕ) → k < length assigns → assignment columns k ≡ slice_index_or assigns k []

-- the bits of the word say for which assignments the test holds
abbrev pub Tells : List ℕ → (List Bool → Bool) → ℕ → Type 0
Tells columns test word = (k : ℕ) → k < 64 → is_set word k ≡ test (assignment columns k)

-- for each assignment whose bit is set the test holds
abbrev pub Shows : List ℕ → (List Bool → Bool) → ℕ → Type 0
Shows columns test word = (k : ℕ) → k < 64 → is_set word k ≡ true → test (assignment columns k) ≡ true

-- each assignment whose bit is set satisfies the background and the groups but its own: that of the first is at `from`
abbrev pub ShowsOthers : Problem → List ℕ → ℕ → List ℕ → ℕ → Type 0
ShowsOthers p set from columns word =
    (k : ℕ) → k < 64 → is_set word k ≡ true → satisfies p (without set (slice_index_or set (from + k) 0)) (assignment columns k) ≡ true

-- the witness at a place satisfies what it has to
abbrev pub IsWitnessAt : Problem → List ℕ → List (List Bool) → ℕ → Type 0
IsWitnessAt p set ws at = is_witness p (without set (slice_index_or set at 0)) (slice_index_or ws at []) ≡ true
