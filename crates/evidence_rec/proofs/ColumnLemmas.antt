-- Lemmas on columns.
use Rattle.std.proofs.Common.{◌≡◌, ◌≢◌, ℕ, zero, suc, ◌+◌, ◌-◌, ◌*◌, ◌^◌, ◌/◌, ◌%◌, ◌<◌, ◌≤◌, min, max, Bool, true, false, not, ◌==◌, ◌&&◌, ◌||◌, cond, List, [], ◌∷◌, length, take, drop, refl, sym, ◌∙◌, ap, subst, inl, inr, arith, w64, eqb}
use Rattle.std.specs.Prelude.{ℤ, pos, negsuc, slice_index_or, None, All, bit_and, bit_or}
use Rattle.std.specs.Int.{Width, bit_at, bit_not}
use mir.Val.{bits}
use Rattle.std.specs.List.{list_all}
use Rattle.std.proofs.lemmas.Bool.{cases_eq, and_parts, and_from, eq-eqb}
use Rattle.std.proofs.lemmas.List.{get_or-map, get_or-take, get_or-drop, take_all}
use Rattle.std.proofs.lemmas.Nat.Bits.{bit_at-lt, bit_at-zero, bit_at_or, bit_at_and, bit_at_not, bit_at_set_same, bit_at_set_other}
use Rattle.sat_base.specs.Literals.{var_of, literal_true}
use Rattle.gm_base.specs.Sets.{without}
use Rattle.gm_base.specs.Problem.{Problem, satisfies}
use Rattle.gm_base.specs.Index.{group_true}
use Rattle.gm_base.specs.Evidence.{is_witness}
use Rattle.gm_base.proofs.IndexLemmas.{satisfies-from_groups}
use Rattle.evidence_rec.specs.Refusals.{witnesses_refusal}
use Rattle.evidence_rec.specs.Columns.{is_set, assignment, IsWitnessAt}

greater : (x y : ℕ) → x < 2 → y < 2 → (max x y == 1) ≡ ((x == 1) || (y == 1))
greater zero zero l m = refl
greater zero (suc zero) l m = refl
greater (suc zero) zero l m = refl
greater (suc zero) (suc zero) l m = refl
greater (suc (suc x)) y l m = absurd (omega arith)
greater zero (suc (suc y)) l m = absurd (omega arith)
greater (suc zero) (suc (suc y)) l m = absurd (omega arith)

lesser : (x y : ℕ) → x < 2 → y < 2 → (min x y == 1) ≡ ((x == 1) && (y == 1))
lesser zero zero l m = refl
lesser zero (suc zero) l m = refl
lesser (suc zero) zero l m = refl
lesser (suc zero) (suc zero) l m = refl
lesser (suc (suc x)) y l m = absurd (omega arith)
lesser zero (suc (suc y)) l m = absurd (omega arith)
lesser (suc zero) (suc (suc y)) l m = absurd (omega arith)

flipped : (x : ℕ) → x < 2 → (1 - x == 1) ≡ not (x == 1)
flipped zero l = refl
flipped (suc zero) l = refl
flipped (suc (suc x)) l = absurd (omega arith)

pub is_set-or : (a b k : ℕ) → is_set (bit_or a b) k ≡ (is_set a k || is_set b k)
is_set-or a b k = ap (λ x. x == 1) (bit_at_or a b k) ∙ greater (bit_at a k) (bit_at b k) (bit_at-lt a k) (bit_at-lt b k)

pub is_set-both : (a b k : ℕ) → is_set (bit_and a b) k ≡ (is_set a k && is_set b k)
is_set-both a b k = ap (λ x. x == 1) (bit_at_and a b k) ∙ lesser (bit_at a k) (bit_at b k) (bit_at-lt a k) (bit_at-lt b k)

pub is_set-and : (a b k : ℕ) → is_set (bit_and a b) k ≡ true → (is_set a k ≡ true) × (is_set b k ≡ true)
is_set-and a b k t = and_parts (is_set a k) (is_set b k) (sym (is_set-both a b k) ∙ t)

pub is_set-not : (w : Width) (a k : ℕ) → a < 2 ^ bits w → k < bits w → is_set (bit_not w a) k ≡ not (is_set a k)
is_set-not w a k fits within = ap (λ x. x == 1) (bit_at_not w a k fits within) ∙ flipped (bit_at a k) (bit_at-lt a k)

pub is_set-zero : (k : ℕ) → is_set 0 k ≡ false
is_set-zero k = ap (λ x. x == 1) (bit_at-zero k)

-- the value of a variable under an assignment of the columns
pub value-column : (columns : List ℕ) (k i : ℕ) → i < length columns → slice_index_or (assignment columns k) i false ≡ is_set (slice_index_or columns i 0) k
value-column columns k i within = get_or-map (λ word. is_set word k) columns i 0 false within

-- what holds of all groups but one holds of the set without it
pub all-without : (test : ℕ → Bool) (own : ℕ) (set : List ℕ) → All (λ g. g ≢ own → test g ≡ true) set → list_all test (without set own) ≡ true
all-without test own [] h = refl
all-without test own (g ∷ gs) h =
    let rest : list_all test (without gs own) ≡ true = all-without test own gs (λ k d lt. h (suc k) d (omega arith)) in
    elim (cases_eq g own) [
      | inl same ↦
          subst (λ b. list_all test (cond (not b) (g ∷ without gs own) (without gs own)) ≡ true) (sym (eq-eqb g own same)) rest
      | inr other ↦
          elim (eqb g own) as (λ b. list_all test (cond (not b) (g ∷ without gs own) (without gs own)) ≡ true) [
            | true ↦ rest
            | false ↦ subst (λ b. (b && list_all test (without gs own)) ≡ true) (sym (h zero 0 (omega arith) other)) rest
          ]
    ]

pub satisfies-others : (p : Problem) (set : List ℕ) (own : ℕ) (assign : List Bool) → group_true p.clauses assign 0 ≡ true
    → All (λ g. g ≢ own → group_true p.clauses assign g ≡ true) set → satisfies p (without set own) assign ≡ true
satisfies-others p set own assign background others =
    let left : List ℕ = without set own in
    satisfies-from_groups p left left assign (length left) refl (omega arith) background
    (subst (λ gs. list_all (group_true p.clauses assign) gs ≡ true) (sym (take_all (length left) left (omega arith))) (all-without (group_true p.clauses assign) own set others))

-- no witness is refused where each satisfies what it has to
pub refusal-none : (p : Problem) (set : List ℕ) (line : ℕ) (gs : List ℕ) (ws : List (List Bool)) → length ws ≡ length gs
    → ((at : ℕ) → at < length gs → is_witness p (without set (slice_index_or gs at 0)) (slice_index_or ws at []) ≡ true) → witnesses_refusal p set line gs ws ≡ None
refusal-none p set line [] ws same each = refl
refusal-none p set line (g ∷ gs) [] same each = absurd (omega arith)
refusal-none p set line (g ∷ gs) (w ∷ ws) same each = rw (each zero (omega arith)) (refusal-none p set (line + 1) gs ws (omega arith) (λ at lt. each (suc at) (omega arith)))

-- the bits below `at` say where the test holds, and no other is set
abbrev pub IsColumnTo : (ℕ → Bool) → ℕ → ℕ → Type 0
IsColumnTo test at column = ((k : ℕ) → k < at → is_set column k ≡ test k) × ((k : ℕ) → at ≤ k → is_set column k ≡ false)

pub column-true : (test : ℕ → Bool) (at column : ℕ) → at < 64 → test at ≡ true → IsColumnTo test at column
    → IsColumnTo test (at + 1) (bit_or column (1 * 2 ^ at % 2 ^ 64))
column-true test at column within made h = (
  λ k lt.
      elim (cases_eq k at) [
        | inl same ↦ rw same (ap (λ b. b == 1) (bit_at_set_same w64 column at within) ∙ sym made)
        | inr differ ↦ other k differ ∙ h.0 k (omega (arith, differ))
      ],
  λ k le. other k (λ same. omega (arith, same)) ∙ h.1 k (omega arith),
)
  where
    other : (k : ℕ) → k ≢ at → is_set (bit_or column (1 * 2 ^ at % 2 ^ 64)) k ≡ is_set column k
    other k differ = ap (λ b. b == 1) (bit_at_set_other w64 column at within k differ)

pub column-false : (test : ℕ → Bool) (at column : ℕ) → test at ≡ false → IsColumnTo test at column → IsColumnTo test (at + 1) column
column-false test at column failed h = (
  λ k lt.
      elim (cases_eq k at) [
        | inl same ↦ rw same (h.1 at (omega arith) ∙ sym failed)
        | inr differ ↦ h.0 k (omega (arith, differ))
      ],
  λ k le. h.1 k (omega arith),
)

-- the words of the first so many assignments
abbrev pub AreWordsTo : List (List Bool) → ℕ → ℕ → List ℕ → Type 0
AreWordsTo assigns block n words =
    (length words ≡ n)
    × ((k i : ℕ) → k < n → i / 64 ≡ block → i < length (slice_index_or assigns k [])
    → slice_index_or (slice_index_or assigns k []) i false ≡ is_set (slice_index_or words k 0) (i % 64))

-- the column of a variable
pub column-positive : (columns : List ℕ) (k v : ℕ) (lit : ℤ) → v ≡ var_of lit → 0 < v → v ≤ length columns → lit ≡ pos (var_of lit)
    → is_set (slice_index_or columns (v - 1) 0) k ≡ literal_true (assignment columns k) lit
column-positive columns k v (pos n) same some within positive =
    rw (sym same) (sym (value-column columns k (v - 1) (omega arith)))
column-positive columns k v (negsuc n) same some within positive = absurd (cc)

-- the column of a literal that is negated
pub column-negated : (columns : List ℕ) (k v : ℕ) (lit : ℤ) → v ≡ var_of lit → 0 < v → v ≤ length columns → ¬ (lit ≡ pos (var_of lit))
    → not (is_set (slice_index_or columns (v - 1) 0) k) ≡ literal_true (assignment columns k) lit
column-negated columns k v (pos n) same some within negative = absurd (negative refl)
column-negated columns k v (negsuc n) same some within negative =
    let place : v - 1 ≡ n = omega (arith, same) in
    ap not (ap (λ i. is_set (slice_index_or columns i 0) k) place ∙ sym (value-column columns k n (omega (arith, same))))

pub witness-from : (p : Problem) (set : List ℕ) (ws : List (List Bool)) (at : ℕ) (w : List Bool) → w ≡ slice_index_or ws at [] → at < length ws
    → All (λ (v : List Bool). length v ≡ p.vars) ws → satisfies p (without set (slice_index_or set at 0)) w ≡ true → IsWitnessAt p set ws at
witness-from p set ws at w same lt values holds =
    let others : List ℕ = without set (slice_index_or set at 0) in
    subst (λ (v : List Bool). is_witness p others v ≡ true) same
    (and_from (length w == p.vars) (satisfies p others w) (eq-eqb (length w) p.vars (ap length same ∙ values at [] lt)) holds)

-- an item of a part of a list
pub get_or-part : (ws : List (List Bool)) (from count at : ℕ) → at < count → slice_index_or (take count (drop from ws)) at [] ≡ slice_index_or ws (from + at) []
get_or-part ws from count at lt = get_or-take count (drop from ws) at [] lt ∙ get_or-drop from ws at []
