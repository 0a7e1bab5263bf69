-- The literals of a clause that are not false, as a clause is looked at literal by literal.
use Rattle.std.proofs.Common.{◌≡◌, ◌≢◌, ◌⊎◌, ℕ, ◌+◌, ◌<◌, ◌≤◌, Bool, true, false, not, cond, List, [], ◌∷◌, ◌++◌, length, get_or, take, drop, Option, Some, None, refl, sym, ◌∙◌, ap, subst, inl, inr, append-nil}
use Rattle.std.specs.Prelude.{ℤ, MatchOption}
use Rattle.std.specs.Ordering.{int_eq}
use Rattle.std.specs.List.{list_all}
use Rattle.std.proofs.lemmas.Bool.{cond-true}
use Rattle.std.proofs.lemmas.List.{take_all, take_more, take-append-drop}
use Rattle.std.proofs.lemmas.List.Elements.{filter-append}
use Rattle.sat_base.specs.Members.{In}
use Rattle.sat_base.specs.Literals.{IsLiteral, AreLiterals}
use Rattle.sat_base.specs.Derivation.{only_lit, is_nil}
use Rattle.sat_base.proofs.Members.{In-append_left, In-append_right, In-append_cases, all_at, all_from}
use Rattle.lrat_check.specs.Marks.{is_marked, unmarked}
use Rattle.lrat_check.proofs.MarkLemmas.{int_eq-same, int_eq-from}

-- each member of a list of one literal is that literal
only_one : (l m : ℤ) (xs : List ℤ) → only_lit xs ≡ Some l → In m xs → m ≡ l
only_one l m [] is i = absurd i
only_one l m (x ∷ xs) is i = by (list_all (int_eq x) xs) refl is i
  where
    by : (b : Bool) → list_all (int_eq x) xs ≡ b → cond b (Some x) None ≡ Some l → In m (x ∷ xs) → m ≡ l
    by true all e (inl same) = let here : x ≡ l = cc in same ∙ here
    by true all e (inr later) = let here : x ≡ l = cc in sym (int_eq-from x m (all_at (int_eq x) xs m all later)) ∙ here
    by false all e i = cc

only_in : (l : ℤ) (xs : List ℤ) → only_lit xs ≡ Some l → In l xs
only_in l [] is = cc
only_in l (x ∷ xs) is = by (list_all (int_eq x) xs) is
  where
    by : (b : Bool) → cond b (Some x) None ≡ Some l → In l (x ∷ xs)
    by true e = let same : l ≡ x = cc in inl same
    by false e = cc

-- two different ones
two_open : (a b : ℤ) (xs : List ℤ) → In a xs → In b xs → a ≢ b → (only_lit xs ≡ None) × (is_nil xs ≡ false)
two_open a b [] i j differ = absurd i
two_open a b (x ∷ xs) i j differ = (by (only_lit (x ∷ xs)) refl, refl)
  where
    by : (o : Option ℤ) → only_lit (x ∷ xs) ≡ o → o ≡ None
    by None is = refl
    by (Some l) is = absurd (differ (only_one l a (x ∷ xs) is i ∙ sym (only_one l b (x ∷ xs) is j)))

-- none so far, or one, which may be repeated
abbrev pub OpenSoFar : List ℤ → Option ℤ → Type 0
OpenSoFar found o = MatchOption o (found ≡ []) (λ l. only_lit found ≡ Some l)

only_from : (l : ℤ) (xs : List ℤ) → In l xs → ((m : ℤ) → In m xs → m ≡ l) → only_lit xs ≡ Some l
only_from l [] i same = absurd i
only_from l (x ∷ xs) i same =
    let here : x ≡ l = same x (inl refl) in
    cond-true (list_all (int_eq x) xs) (Some x) None (all_from (int_eq x) xs (λ m j. int_eq-same x m (here ∙ sym (same m (inr j))))) ∙ ap Some here

only_again : (l : ℤ) (xs : List ℤ) → only_lit xs ≡ Some l → only_lit (xs ++ l ∷ []) ≡ Some l
only_again l xs is = only_from l (xs ++ l ∷ []) (In-append_left l xs (l ∷ []) (only_in l xs is)) (λ m i. by m (In-append_cases m xs (l ∷ []) i))
  where
    by : (m : ℤ) → In m xs ⊎ In m (l ∷ []) → m ≡ l
    by m (inl i) = only_one l m xs is i
    by m (inr (inl same)) = same
    by m (inr (inr none)) = absurd none

-- what the next literal of a clause adds
next_is : (marks : List Bool) (clause : List ℤ) (i : ℕ) (x : ℤ) → i < length clause → x ≡ get_or clause i x
    → unmarked marks (take (i + 1) clause) ≡ unmarked marks (take i clause) ++ cond (not (is_marked marks x)) (x ∷ []) []
next_is marks clause i x lt is =
    ap (unmarked marks) (take_more clause i x lt ∙ ap (λ (l : ℤ). take i clause ++ l ∷ []) (sym is))
    ∙ filter-append (λ (l : ℤ). not (is_marked marks l)) (take i clause) (x ∷ [])

pub open_marked : (marks : List Bool) (clause : List ℤ) (i : ℕ) (x : ℤ) (o : Option ℤ) → i < length clause → x ≡ get_or clause i x → is_marked marks x ≡ true
    → OpenSoFar (unmarked marks (take i clause)) o → OpenSoFar (unmarked marks (take (i + 1) clause)) o
open_marked marks clause i x o lt is here so_far =
    subst (λ (ls : List ℤ). OpenSoFar ls o)
    (sym (next_is marks clause i x lt is ∙ ap (λ (b : Bool). unmarked marks (take i clause) ++ cond (not b) (x ∷ []) []) here ∙ append-nil (unmarked marks (take i clause))))
    so_far

pub open_next : (marks : List Bool) (clause : List ℤ) (i : ℕ) (x : ℤ) (o : Option ℤ) → i < length clause → x ≡ get_or clause i x → is_marked marks x ≡ false
    → ((first : ℤ) → o ≡ Some first → first ≡ x) → OpenSoFar (unmarked marks (take i clause)) o → OpenSoFar (unmarked marks (take (i + 1) clause)) (Some x)
open_next marks clause i x o lt is here same so_far =
    subst (λ (ls : List ℤ). only_lit ls ≡ Some x)
    (sym (next_is marks clause i x lt is ∙ ap (λ (b : Bool). unmarked marks (take i clause) ++ cond (not b) (x ∷ []) []) here))
    (by (unmarked marks (take i clause)) o same so_far)
  where
    by : (found : List ℤ) (o : Option ℤ) → ((first : ℤ) → o ≡ Some first → first ≡ x) → OpenSoFar found o → only_lit (found ++ x ∷ []) ≡ Some x
    by found None same none = ap (λ (ls : List ℤ). only_lit (ls ++ x ∷ [])) none
    by found (Some first) same one = let here : first ≡ x = same first refl in only_again x found (one ∙ ap Some here)

pub open_many : (marks : List Bool) (clause : List ℤ) (i : ℕ) (x first : ℤ) → i < length clause → x ≡ get_or clause i x → is_marked marks x ≡ false → first ≢ x
    → only_lit (unmarked marks (take i clause)) ≡ Some first → (only_lit (unmarked marks clause) ≡ None) × (is_nil (unmarked marks clause) ≡ false)
open_many marks clause i x first lt is here differ one =
    let test = λ (l : ℤ). not (is_marked marks l) in
    let found : In first (unmarked marks (take (i + 1) clause)) =
    subst (In first) (sym (next_is marks clause i x lt is))
    (In-append_left first (unmarked marks (take i clause)) (cond (not (is_marked marks x)) (x ∷ []) []) (only_in first (unmarked marks (take i clause)) one)) in
    let also : In x (unmarked marks (take (i + 1) clause)) =
    subst (In x) (sym (next_is marks clause i x lt is))
    (In-append_right x (unmarked marks (take i clause)) (cond (not (is_marked marks x)) (x ∷ []) []) (subst (λ (b : Bool). In x (cond (not b) (x ∷ []) [])) (sym here) (inl refl))) in
    let whole : unmarked marks (take (i + 1) clause) ++ unmarked marks (drop (i + 1) clause) ≡ unmarked marks clause =
    sym (filter-append test (take (i + 1) clause) (drop (i + 1) clause)) ∙ ap (unmarked marks) (take-append-drop (i + 1) clause) in
    two_open first x (unmarked marks clause)
    (subst (In first) whole (In-append_left first (unmarked marks (take (i + 1) clause)) (unmarked marks (drop (i + 1) clause)) found))
    (subst (In x) whole (In-append_left x (unmarked marks (take (i + 1) clause)) (unmarked marks (drop (i + 1) clause)) also))
    differ

pub open_all : (marks : List Bool) (clause : List ℤ) (i : ℕ) (o : Option ℤ) → length clause ≤ i → OpenSoFar (unmarked marks (take i clause)) o → OpenSoFar (unmarked marks clause) o
open_all marks clause i o all so_far = subst (λ (ls : List ℤ). OpenSoFar (unmarked marks ls) o) (take_all i clause all) so_far

-- the one literal is of the clause
unmarked_in : (marks : List Bool) (clause : List ℤ) (l : ℤ) → In l (unmarked marks clause) → In l clause
unmarked_in marks [] l i = i
unmarked_in marks (x ∷ xs) l i = by (is_marked marks x) i (unmarked_in marks xs l)
  where
    by : (b : Bool) → In l (cond (not b) (x ∷ unmarked marks xs) (unmarked marks xs)) → (In l (unmarked marks xs) → In l xs) → In l (x ∷ xs)
    by true i later = inr (later i)
    by false (inl same) later = inl same
    by false (inr i) later = inr (later i)

over_at : (vars : ℕ) (lits : List ℤ) (l : ℤ) → AreLiterals vars lits → In l lits → IsLiteral vars l
over_at vars [] l over i = absurd i
over_at vars (x ∷ xs) l over (inl same) = subst (IsLiteral vars) (sym same) over.0
over_at vars (x ∷ xs) l over (inr i) = over_at vars xs l over.1 i

pub only_over : (vars : ℕ) (marks : List Bool) (clause : List ℤ) (l : ℤ) → AreLiterals vars clause → only_lit (unmarked marks clause) ≡ Some l → IsLiteral vars l
only_over vars marks clause l over one = over_at vars clause l over (unmarked_in marks clause l (only_in l (unmarked marks clause) one))
