-- The literals of a clause that are not false, as a clause is looked at literal by literal.
use Rattle.std.proofs.Common.{◌≡◌, ◌≢◌, ◌⊎◌, ℕ, ◌+◌, ◌<◌, ◌≤◌, Bool, true, false, not, ◌&&◌, ◌||◌, cond, List, [], ◌∷◌, ◌++◌, length, get_or, set, take, drop, Option, Some, None, refl, sym, ◌∙◌, ap, subst, inl, inr, append-nil}
use Rattle.std.specs.Prelude.{ℤ, MatchOption}
use Rattle.std.specs.Ordering.{int_eq}
use Rattle.std.proofs.lemmas.List.{take_all, take_more, take-append-drop}
use Rattle.std.proofs.lemmas.List.Elements.{filter-append}
use Rattle.std.proofs.lemmas.List.Folds.{list_any-append}
use Rattle.sat_base.specs.Members.{In}
use Rattle.sat_base.specs.Literals.{IsLiteral}
use Rattle.sat_base.specs.Derivation.{contains_lit, open_lits, only_lit, is_nil}
use Rattle.sat_base.proofs.Members.{In-append_left, In-append_right, In-append_cases}
use Rattle.lrat_check.specs.Marks.{place_of, is_marked, AreMarked}
use Rattle.lrat_check.proofs.MarkLemmas.{marked_more}
use Rattle.lrat_export.specs.Export.{is_selector, bared}
use Rattle.lrat_export.specs.Walk.{opened}
use Rattle.lrat_export.proofs.BaredLemmas.{only_member, only_in, only_from}

-- two different ones
two_open : (a b : ℤ) (xs : List ℤ) → In a xs → In b xs → a ≢ b → (only_lit xs ≡ None) × (is_nil xs ≡ false)
two_open a b [] i j differ = absurd i
two_open a b (x ∷ xs) i j differ = (by (only_lit (x ∷ xs)) refl, refl)
  where
    by : (o : Option ℤ) → only_lit (x ∷ xs) ≡ o → o ≡ None
    by None is = refl
    by (Some l) is = absurd (differ (only_member a l (x ∷ xs) i is ∙ sym (only_member b l (x ∷ xs) j is)))

-- none so far, or one, which may be repeated
abbrev pub OpenSoFar : ℕ → List ℤ → Option ℤ → Type 0
OpenSoFar vars found o = MatchOption o (found ≡ []) (λ l. (only_lit found ≡ Some l) × IsLiteral vars l)

only_again : (l : ℤ) (xs : List ℤ) → only_lit xs ≡ Some l → only_lit (xs ++ l ∷ []) ≡ Some l
only_again l xs is = only_from l (xs ++ l ∷ []) (In-append_left l xs (l ∷ []) (only_in l xs is)) (λ m i. by m (In-append_cases m xs (l ∷ []) i))
  where
    by : (m : ℤ) → In m xs ⊎ In m (l ∷ []) → m ≡ l
    by m (inl i) = only_member m l xs i is
    by m (inr (inl same)) = same
    by m (inr (inr none)) = absurd none

-- whether a literal is neither of a selector nor marked
abbrev is_open : ℕ → List Bool → ℤ → Bool
is_open vars marks l = not (is_selector vars l) && not (is_marked marks l)

-- what the next literal of a clause adds
next_is : (vars : ℕ) (marks : List Bool) (clause : List ℤ) (i : ℕ) (x : ℤ) → i < length clause → x ≡ get_or clause i x
    → opened vars marks (take (i + 1) clause) ≡ opened vars marks (take i clause) ++ cond (is_open vars marks x) (x ∷ []) []
next_is vars marks clause i x lt is =
    ap (opened vars marks) (take_more clause i x lt ∙ ap (λ (l : ℤ). take i clause ++ l ∷ []) (sym is))
    ∙ filter-append (is_open vars marks) (take i clause) (x ∷ [])

pub open_closed : (vars : ℕ) (marks : List Bool) (clause : List ℤ) (i : ℕ) (x : ℤ) (o : Option ℤ) → i < length clause → x ≡ get_or clause i x → (not (is_selector vars x) && not (is_marked marks x)) ≡ false
    → OpenSoFar vars (opened vars marks (take i clause)) o → OpenSoFar vars (opened vars marks (take (i + 1) clause)) o
open_closed vars marks clause i x o lt is here so_far =
    subst (λ (ls : List ℤ). OpenSoFar vars ls o)
    (sym (next_is vars marks clause i x lt is ∙ ap (λ (b : Bool). opened vars marks (take i clause) ++ cond b (x ∷ []) []) here ∙ append-nil (opened vars marks (take i clause))))
    so_far

pub open_next : (vars : ℕ) (marks : List Bool) (clause : List ℤ) (i : ℕ) (x : ℤ) (o : Option ℤ) → i < length clause → x ≡ get_or clause i x → (not (is_selector vars x) && not (is_marked marks x)) ≡ true
    → IsLiteral vars x → ((first : ℤ) → o ≡ Some first → first ≡ x) → OpenSoFar vars (opened vars marks (take i clause)) o → OpenSoFar vars (opened vars marks (take (i + 1) clause)) (Some x)
open_next vars marks clause i x o lt is here over same so_far =
    subst (λ (ls : List ℤ). (only_lit ls ≡ Some x) × IsLiteral vars x)
    (sym (next_is vars marks clause i x lt is ∙ ap (λ (b : Bool). opened vars marks (take i clause) ++ cond b (x ∷ []) []) here))
    (by (opened vars marks (take i clause)) o same so_far, over)
  where
    by : (found : List ℤ) (o : Option ℤ) → ((first : ℤ) → o ≡ Some first → first ≡ x) → OpenSoFar vars found o → only_lit (found ++ x ∷ []) ≡ Some x
    by found None same none = ap (λ (ls : List ℤ). only_lit (ls ++ x ∷ [])) none
    by found (Some first) same one = let here : first ≡ x = same first refl in only_again x found (one.0 ∙ ap Some here)

pub open_many : (vars : ℕ) (marks : List Bool) (clause : List ℤ) (i : ℕ) (x first : ℤ) → i < length clause → x ≡ get_or clause i x → (not (is_selector vars x) && not (is_marked marks x)) ≡ true → first ≢ x
    → only_lit (opened vars marks (take i clause)) ≡ Some first → (only_lit (opened vars marks clause) ≡ None) × (is_nil (opened vars marks clause) ≡ false)
open_many vars marks clause i x first lt is here differ one =
    let found : In first (opened vars marks (take (i + 1) clause)) =
    subst (In first) (sym (next_is vars marks clause i x lt is))
    (In-append_left first (opened vars marks (take i clause)) (cond (is_open vars marks x) (x ∷ []) []) (only_in first (opened vars marks (take i clause)) one)) in
    let also : In x (opened vars marks (take (i + 1) clause)) =
    subst (In x) (sym (next_is vars marks clause i x lt is))
    (In-append_right x (opened vars marks (take i clause)) (cond (is_open vars marks x) (x ∷ []) []) (subst (λ (b : Bool). In x (cond b (x ∷ []) [])) (sym here) (inl refl))) in
    let whole : opened vars marks (take (i + 1) clause) ++ opened vars marks (drop (i + 1) clause) ≡ opened vars marks clause =
    sym (filter-append (is_open vars marks) (take (i + 1) clause) (drop (i + 1) clause)) ∙ ap (opened vars marks) (take-append-drop (i + 1) clause) in
    two_open first x (opened vars marks clause)
    (subst (In first) whole (In-append_left first (opened vars marks (take (i + 1) clause)) (opened vars marks (drop (i + 1) clause)) found))
    (subst (In x) whole (In-append_left x (opened vars marks (take (i + 1) clause)) (opened vars marks (drop (i + 1) clause)) also))
    differ

pub open_all : (vars : ℕ) (marks : List Bool) (clause : List ℤ) (i : ℕ) (o : Option ℤ) → length clause ≤ i → OpenSoFar vars (opened vars marks (take i clause)) o → OpenSoFar vars (opened vars marks clause) o
open_all vars marks clause i o all so_far = subst (λ (ls : List ℤ). OpenSoFar vars (opened vars marks ls) o) (take_all i clause all) so_far

-- what is not marked of what is left of a clause is not false
pub open-opened : (vars : ℕ) (marks : List Bool) (falses clause : List ℤ) → AreMarked marks falses → open_lits falses (bared vars clause) ≡ opened vars marks clause
open-opened vars marks falses [] are = refl
open-opened vars marks falses (l ∷ ls) are = by (is_selector vars l) (open-opened vars marks falses ls are)
  where
    by : (b : Bool) → open_lits falses (bared vars ls) ≡ opened vars marks ls
        → open_lits falses (cond (not b) (l ∷ bared vars ls) (bared vars ls)) ≡ cond (not b && not (is_marked marks l)) (l ∷ opened vars marks ls) (opened vars marks ls)
    by true rest = rest
    by false rest =
        ap (λ (b : Bool). cond (not b) (l ∷ open_lits falses (bared vars ls)) (open_lits falses (bared vars ls))) (sym (are l))
        ∙ ap (λ (xs : List ℤ). cond (not (is_marked marks l)) (l ∷ xs) xs) rest

-- ---- literals marked one after the other

-- one literal further of what is left of a clause
pub bared-next : (vars : ℕ) (lits : List ℤ) (i : ℕ) (x : ℤ) → i < length lits → x ≡ get_or lits i x → bared vars (take (i + 1) lits) ≡ bared vars (take i lits) ++ bared vars (x ∷ [])
bared-next vars lits i x lt is =
    ap (bared vars) (take_more lits i x lt ∙ ap (λ (l : ℤ). take i lits ++ l ∷ []) (sym is))
    ∙ filter-append (λ l. not (is_selector vars l)) (take i lits) (x ∷ [])

pub marked_behind : (marks : List Bool) (falses : List ℤ) (l : ℤ) → place_of l < length marks → AreMarked marks falses → AreMarked (set marks (place_of l) true) (falses ++ l ∷ [])
marked_behind marks falses l lt are m = marked_more marks falses l lt are m ∙ swap (int_eq l m) (contains_lit falses m) ∙ sym (list_any-append (λ (k : ℤ). int_eq k m) falses (l ∷ []))
  where
    swap : (a b : Bool) → (a || b) ≡ (b || (a || false))
    swap true true = refl
    swap true false = refl
    swap false true = refl
    swap false false = refl

pub bared-kept : (vars : ℕ) (l : ℤ) → is_selector vars l ≡ false → bared vars (l ∷ []) ≡ l ∷ []
bared-kept vars l plain = ap (λ (b : Bool). cond (not b) (l ∷ []) []) plain

pub bared-gone : (vars : ℕ) (l : ℤ) → is_selector vars l ≡ true → bared vars (l ∷ []) ≡ []
bared-gone vars l selector = ap (λ (b : Bool). cond (not b) (l ∷ []) []) selector
