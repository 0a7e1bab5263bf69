-- The places of entries on a trail.
use Rattle.std.proofs.Common.{◌≡◌, ℕ, ◌+◌, ◌-◌, ◌<◌, ◌≤◌, List, [], ◌∷◌, length, drop, refl, sym, ◌∙◌, ap, subst, inl, inr, arith, zero, suc}
use Rattle.std.specs.Prelude.{ℤ, pos, neg_ℤ}
use Rattle.sat_base.specs.Literals.{var_of, IsLiteral}
use Rattle.sat_base.specs.Members.{In}
use Rattle.sat_base.specs.Units.{IsUnset, HasValue}
use Rattle.trail_book.specs.declared.entry.Entry.{Entry}
use Rattle.trail_book.specs.Trail.{trues, oldest, IsTrail, IsPlace}
use Rattle.trail_book.proofs.TrailLemmas.{In-from_trues, trail_vars, same_var}

pub oldest_skip : (e : Entry) (es : List Entry) (n : ℕ) → n ≤ length es → oldest n (e ∷ es) ≡ oldest n es
oldest_skip e es n h =
    let one_more : length (e ∷ es) - n ≡ suc (length es - n) = omega (arith, h) in ap (λ (k : ℕ). drop k (e ∷ es)) one_more

pub oldest_whole : (es : List Entry) (n : ℕ) → n ≡ length es → oldest n es ≡ es
oldest_whole es n h = let none : length es - n ≡ 0 = omega (arith, h) in ap (λ (k : ℕ). drop k es) none

-- an entry at a place is there in a longer trail too
pub place_skip : (e : Entry) (es : List Entry) (x : Entry) (p : ℕ) → p < length es → oldest (p + 1) es ≡ x ∷ oldest p es
    → oldest (p + 1) (e ∷ es) ≡ x ∷ oldest p (e ∷ es)
place_skip e es x p h at =
    oldest_skip e es (p + 1) (omega (arith, h)) ∙ at ∙ ap (λ (low : List Entry). x ∷ low) (sym (oldest_skip e es p (omega (arith, h))))

pub place_unskip : (e : Entry) (es : List Entry) (x : Entry) (p : ℕ) → p < length es → oldest (p + 1) (e ∷ es) ≡ x ∷ oldest p (e ∷ es)
    → oldest (p + 1) es ≡ x ∷ oldest p es
place_unskip e es x p h at =
    sym (oldest_skip e es (p + 1) (omega (arith, h))) ∙ at ∙ ap (λ (low : List Entry). x ∷ low) (oldest_skip e es p (omega (arith, h)))

-- the newest entry is at the last place
pub place_newest : (e : Entry) (es : List Entry) → oldest (length es + 1) (e ∷ es) ≡ e ∷ oldest (length es) (e ∷ es)
place_newest e es =
    oldest_whole (e ∷ es) (length es + 1) (omega arith)
    ∙ ap (λ (low : List Entry). e ∷ low) (sym (oldest_skip e es (length es) (omega arith) ∙ oldest_whole es (length es) refl))

-- where two entries are at one place they are one
pub place_one : (es : List Entry) (x y : Entry) (p : ℕ) → oldest (p + 1) es ≡ x ∷ oldest p es → oldest (p + 1) es ≡ y ∷ oldest p es → x ≡ y
place_one es x y p at also = ap (head_or x) (sym at ∙ also)
  where
    head_or : Entry → List Entry → Entry
    head_or d [] = d
    head_or d (e ∷ low) = e

-- each entry has a place
pub place_of_entry : (x : Entry) (es : List Entry) → In x es → (p : ℕ) × (oldest (p + 1) es ≡ x ∷ oldest p es) × (p < length es)
place_of_entry x [] i = absurd i
place_of_entry x (e ∷ es) (inl same) = (
  length es,
  subst (λ (y : Entry). oldest (length es + 1) (e ∷ es) ≡ y ∷ oldest (length es) (e ∷ es)) (sym same) (place_newest e es),
  omega arith,
)
place_of_entry x (e ∷ es) (inr i) = let (p, at, h) = place_of_entry x es i in (p, place_skip e es x p h at, omega (arith, h))

-- a variable with a value has an entry
pub entry_of_var : (es : List Entry) (v : ℕ) → HasValue (trues es) (pos v) → (x : Entry) × In x es × (var_of x.lit ≡ v)
entry_of_var es v (inl i) = let (x, is_in, is) = In-from_trues (pos v) es i in (x, is_in, ap var_of is)
entry_of_var es v (inr i) = let (x, is_in, is) = In-from_trues (neg_ℤ (pos v)) es i in (x, is_in, ap var_of is ∙ same v)
  where
    same : (n : ℕ) → var_of (neg_ℤ (pos n)) ≡ n
    same zero = refl
    same (suc n) = refl

pub place_of_var : (es : List Entry) (v : ℕ) → HasValue (trues es) (pos v) → (p : ℕ) × IsPlace es v p
place_of_var es v has =
    let (x, i, is) = entry_of_var es v has in
    let (p, at, h) = place_of_entry x es i in
    (p, record { entry = x; at = at; of_var = is; within = h })

-- and it is one of the variables
pub var_is_literal : (vars : ℕ) (es : List Entry) (v : ℕ) → IsTrail vars es → HasValue (trues es) (pos v) → IsLiteral vars (pos v)
var_is_literal vars es v t (inl i) = trail_vars vars es t (pos v) i
var_is_literal vars es v t (inr i) = turned v (trail_vars vars es t (neg_ℤ (pos v)) i)
  where
    turned : (n : ℕ) → IsLiteral vars (neg_ℤ (pos n)) → IsLiteral vars (pos n)
    turned zero l = l
    turned (suc n) l = record { not_zero = l.not_zero; in_range = l.in_range }

-- a literal without value is of another variable than those with one
pub unset_differs : (trues : List ℤ) (l m : ℤ) → IsUnset trues l → In m trues → ¬ (var_of m ≡ var_of l)
unset_differs trues l m u i same = elim (same_var m l same) [
  | inl s ↦ u.not_true (subst (λ (x : ℤ). In x trues) s i)
  | inr s ↦ u.not_false (subst (λ (x : ℤ). In x trues) s i)
]
