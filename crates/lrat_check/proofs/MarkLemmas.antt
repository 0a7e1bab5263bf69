-- Marked literals.
use Rattle.std.proofs.Common.{◌≡◌, ◌≢◌, ℕ, zero, suc, ◌+◌, ◌<◌, ◌≤◌, Bool, true, false, not, ◌||◌, cond, eqb, List, [], ◌∷◌, ◌++◌, map, length, get_or, set, take, refl, sym, ◌∙◌, ap, inl, inr, arith, All, drop, length-drop}
use Rattle.std.specs.Prelude.{ℤ, pos, negsuc, neg_ℤ}
use Rattle.std.specs.Ordering.{int_eq}
use Rattle.std.proofs.lemmas.Bool.{cases_eq, ne_eqb}
use Rattle.std.proofs.lemmas.Bool.Decides.{Decides-int_eq}
use Rattle.std.proofs.lemmas.List.{get_or-set_same, get_or-set_other, take_more, get_or_default}
use Rattle.std.proofs.lemmas.List.Folds.{list_any-append}
use Rattle.std.proofs.lemmas.List.Elements.{All-append, All-take, All-from_recursion}
use Rattle.sat_base.specs.Literals.{IsLiteral, AreLiterals}
use Rattle.sat_base.specs.Derivation.{contains_lit, open_lits}
use Rattle.lrat_check.specs.Marks.{place_of, is_marked, unmarked, HasPlaces, HavePlaces, AreMarked}

pub int_eq-same : (l m : ℤ) → l ≡ m → int_eq l m ≡ true
int_eq-same l m same = (Decides-int_eq l m).1 same

pub int_eq-from : (l m : ℤ) → int_eq l m ≡ true → l ≡ m
int_eq-from l m is = (Decides-int_eq l m).0 is

pub int_eq-other : (l m : ℤ) → l ≢ m → int_eq l m ≡ false
int_eq-other l m other = by (int_eq l m) refl
  where
    by : (b : Bool) → int_eq l m ≡ b → b ≡ false
    by true is = absurd (other (int_eq-from l m is))
    by false is = refl

-- two literals never share a place
place_of-injective : (l m : ℤ) → place_of l ≡ place_of m → l ≡ m
place_of-injective (pos a) (pos b) same = ap pos (omega arith)
place_of-injective (pos a) (negsuc b) same = absurd (omega arith)
place_of-injective (negsuc a) (pos b) same = absurd (omega arith)
place_of-injective (negsuc a) (negsuc b) same = ap negsuc (omega arith)

pub place_within : (vars : ℕ) (marks : List Bool) (l : ℤ) → IsLiteral vars l → HasPlaces vars marks → place_of l < length marks
place_within vars marks (pos a) is places = omega (arith, is.in_range)
place_within vars marks (negsuc a) is places = omega (arith, is.in_range)

pub literal_negated : (vars : ℕ) (l : ℤ) → IsLiteral vars l → IsLiteral vars (neg_ℤ l)
literal_negated vars (pos zero) is = is
literal_negated vars (pos (suc a)) is = record { not_zero = is.not_zero; in_range = is.in_range }
literal_negated vars (negsuc a) is = record { not_zero = is.not_zero; in_range = is.in_range }

pub have_places : (vars : ℕ) (marks : List Bool) (lits : List ℤ) → AreLiterals vars lits → HasPlaces vars marks → HavePlaces marks lits
have_places vars marks lits over places k d lt =
    let here = All-from_recursion (IsLiteral vars) lits over k d lt in
    (place_within vars marks (get_or lits k d) here places, place_within vars marks (neg_ℤ (get_or lits k d)) (literal_negated vars (get_or lits k d) here) places)

-- the table's own equation, from which stamps are marks
pub map-set : {X Y : Type 0} (f : X → Y) (xs : List X) (i : ℕ) (x : X) → map f (set xs i x) ≡ set (map f xs) i (f x)
map-set f [] i x = refl
map-set f (y ∷ ys) zero x = refl
map-set f (y ∷ ys) (suc i) x = ap (λ (zs : List _). f y ∷ zs) (map-set f ys i x)

marked_set : (marks : List Bool) (l m : ℤ) → place_of l < length marks → is_marked (set marks (place_of l) true) m ≡ (int_eq l m || is_marked marks m)
marked_set marks l m lt = elim (cases_eq (place_of m) (place_of l)) [
  | inl same ↦
      ap (λ (k : ℕ). get_or (set marks (place_of l) true) k false) same ∙ get_or-set_same marks (place_of l) true false lt
      ∙ sym (ap (λ (b : Bool). b || is_marked marks m) (int_eq-same l m (place_of-injective l m (sym same))))
  | inr other ↦
      get_or-set_other marks (place_of l) (place_of m) true false other
      ∙ sym (ap (λ (b : Bool). b || is_marked marks m) (int_eq-other l m (λ same. other (ap place_of (sym same)))))
]

-- one more literal is marked
pub marked_more : (marks : List Bool) (lits : List ℤ) (l : ℤ) → place_of l < length marks → AreMarked marks lits → AreMarked (set marks (place_of l) true) (l ∷ lits)
marked_more marks lits l lt are m = marked_set marks l m lt ∙ ap (λ (b : Bool). int_eq l m || b) (are m)

-- the same behind those of a list so far
pub marked_next : (marks : List Bool) (lits : List ℤ) (i : ℕ) (l : ℤ) → i < length lits → l ≡ get_or lits i l → place_of l < length marks → AreMarked marks (take i lits)
    → AreMarked (set marks (place_of l) true) (take (i + 1) lits)
marked_next marks lits i l lt is fits are m =
    marked_set marks l m fits ∙ ap (λ (b : Bool). int_eq l m || b) (are m) ∙ swap (int_eq l m) (contains_lit (take i lits) m)
    ∙ sym (list_any-append (λ (k : ℤ). int_eq k m) (take i lits) (l ∷ []))
    ∙ ap (λ (ls : List ℤ). contains_lit ls m) (ap (λ (k : ℤ). take i lits ++ k ∷ []) is ∙ sym (take_more lits i l lt))
  where
    swap : (a b : Bool) → (a || b) ≡ (b || (a || false))
    swap true true = refl
    swap true false = refl
    swap false true = refl
    swap false false = refl

-- what is not marked is not false
pub unmarked_open : (marks : List Bool) (falses clause : List ℤ) → AreMarked marks falses → unmarked marks clause ≡ open_lits falses clause
unmarked_open marks falses [] are = refl
unmarked_open marks falses (l ∷ ls) are =
    ap (λ (b : Bool). cond (not b) (l ∷ unmarked marks ls) (unmarked marks ls)) (are l)
    ∙ ap (λ (rest : List ℤ). cond (not (contains_lit falses l)) (l ∷ rest) rest) (unmarked_open marks falses ls are)

-- no stamp is of the round
pub none_stamped : (stamps : List ℕ) (round : ℕ) → All (λ (s : ℕ). s < round) stamps → AreMarked (map (λ (s : ℕ). eqb s round) stamps) []
none_stamped stamps round below l = by stamps (place_of l) below
  where
    by : (xs : List ℕ) (i : ℕ) → All (λ (s : ℕ). s < round) xs → get_or (map (λ (s : ℕ). eqb s round) xs) i false ≡ false
    by [] i all = refl
    by (x ∷ xs) zero all = ne_eqb x round (λ same. let lt = all 0 0 (omega arith) in absurd (omega arith))
    by (x ∷ xs) (suc i) all = by xs i (λ k d lt. all (suc k) d (omega arith))

-- stamps that were wiped, where a table is written back over its own length
pub wiped_below : (n : ℕ) (stamps old : List ℕ) → length stamps ≡ length old → ((k : ℕ) → k < length stamps → get_or stamps k 0 ≡ 0)
    → All (λ (s : ℕ). s < 0 + 1) (take n (stamps ++ drop (length stamps) old))
wiped_below n stamps old same zero_at =
    let rest : length (drop (length stamps) old) ≡ 0 = omega (arith, length-drop (length stamps) old) in
    All-take (λ (s : ℕ). s < 0 + 1) n (stamps ++ drop (length stamps) old)
    (All-append (λ (s : ℕ). s < 0 + 1) stamps (drop (length stamps) old)
    (λ k d lt. let is = get_or_default stamps k d 0 lt in let none = zero_at k lt in omega arith)
    (λ k d lt. absurd (omega arith)))

pub below_next : (stamps : List ℕ) (round : ℕ) → All (λ (s : ℕ). s ≤ round) stamps → All (λ (s : ℕ). s < round + 1) stamps
below_next stamps round at_most k d lt = let here = at_most k d lt in omega arith
