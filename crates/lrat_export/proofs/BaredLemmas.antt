-- Literals of selectors that are true, and clauses without the literals of selectors.
use Rattle.std.proofs.Common.{◌≡◌, ◌⊎◌, ℕ, zero, suc, ◌-◌, ◌<◌, Bool, true, false, not, ◌&&◌, cond, List, [], ◌∷◌, Some, None, refl, sym, ◌∙◌, ap, subst, inl, inr, ltb, arith}
use Rattle.std.specs.Prelude.{ℤ, pos, negsuc, neg_ℤ}
use Rattle.std.specs.Ordering.{int_eq}
use Rattle.std.specs.List.{list_all, filter}
use Rattle.std.proofs.lemmas.Bool.{false≢true, true≢false, cases_Bool, cond-true, and_parts, ltb-true}
use Rattle.std.proofs.lemmas.Bool.Decides.{Decides-int_eq}
use Rattle.sat_base.specs.Derivation.{contains_lit, open_lits, only_lit, is_nil}
use Rattle.sat_base.specs.Members.{In}
use Rattle.sat_base.proofs.Members.{all_at, all_from, any_at, any_from}
use Rattle.gm_base.specs.Sets.{has}
use Rattle.lrat_export.specs.Export.{is_selector, is_true, is_settled, bared}

-- ---- members

pub int_eq-from : (l m : ℤ) → int_eq l m ≡ true → l ≡ m
int_eq-from l m is = (Decides-int_eq l m).0 is

pub int_eq-same : (l m : ℤ) → l ≡ m → int_eq l m ≡ true
int_eq-same l m same = (Decides-int_eq l m).1 same

pub In-contains : (lits : List ℤ) (l : ℤ) → contains_lit lits l ≡ true → In l lits
In-contains lits l h = let (k, i, e) = any_from (λ m. int_eq m l) lits h in subst (λ m. In m lits) (int_eq-from k l e) i

pub contains-In : (lits : List ℤ) (l : ℤ) → In l lits → contains_lit lits l ≡ true
contains-In lits l i = any_at (λ m. int_eq m l) lits l i (int_eq-same l l refl)

pub In-filter : (p : ℤ → Bool) (m : ℤ) (xs : List ℤ) → In m xs → p m ≡ true → In m (filter p xs)
In-filter p m [] h t = absurd h
In-filter p m (x ∷ xs) (inl e) t = subst (In m) (sym (cond-true (p x) (x ∷ filter p xs) (filter p xs) (sym (ap p e) ∙ t))) (inl e)
In-filter p m (x ∷ xs) (inr h) t = here (p x) (In-filter p m xs h t)
  where
    here : (b : Bool) → In m (filter p xs) → In m (cond b (x ∷ filter p xs) (filter p xs))
    here true rest = inr rest
    here false rest = rest

pub In-from_filter : (p : ℤ → Bool) (m : ℤ) (xs : List ℤ) → In m (filter p xs) → In m xs × (p m ≡ true)
In-from_filter p m [] h = absurd h
In-from_filter p m (x ∷ xs) h = here (p x) refl h (In-from_filter p m xs)
  where
    here : (b : Bool) → p x ≡ b → In m (cond b (x ∷ filter p xs) (filter p xs)) → (In m (filter p xs) → In m xs × (p m ≡ true)) → In m (x ∷ xs) × (p m ≡ true)
    here true is (inl same) rest = (inl same, ap p same ∙ is)
    here true is (inr i) rest = let found = rest i in (inr found.0, found.1)
    here false is i rest = let found = rest i in (inr found.0, found.1)

nothing-in : (xs : List ℤ) → ((m : ℤ) → In m xs → ⊥) → xs ≡ []
nothing-in [] none = refl
nothing-in (x ∷ xs) none = absurd (none x (inl refl))

-- ---- literals of a clause that are not false

pub none_open : (falses c : List ℤ) → ((m : ℤ) → In m c → contains_lit falses m ≡ true) → open_lits falses c ≡ []
none_open falses c all =
    nothing-in (open_lits falses c)
    (λ m i. let found = In-from_filter (λ l. not (contains_lit falses l)) m c i in true≢false (sym found.1 ∙ ap not (all m found.0)))

pub all_false : (falses c : List ℤ) (m : ℤ) → is_nil (open_lits falses c) ≡ true → In m c → contains_lit falses m ≡ true
all_false falses c m nil i = elim (cases_Bool (contains_lit falses m)) [
  | inl held ↦ held
  | inr plain ↦ absurd (by (open_lits falses c) nil (In-filter (λ l. not (contains_lit falses l)) m c i (ap not plain)))
]
  where
    by : (xs : List ℤ) → is_nil xs ≡ true → In m xs → ⊥
    by [] t i = i
    by (x ∷ xs) t i = false≢true t

pub only_member : (m l : ℤ) (xs : List ℤ) → In m xs → only_lit xs ≡ Some l → m ≡ l
only_member m l [] h e = absurd h
only_member m l (x ∷ xs) h e = here (list_all (int_eq x) xs) refl e
  where
    here : (b : Bool) → list_all (int_eq x) xs ≡ b → cond b (Some x) None ≡ Some l → m ≡ l
    here false same f = absurd (cc)
    here true same f =
        let head : x ≡ l = cc in
        elim h [ inl first ↦ first ∙ head | inr later ↦ sym (int_eq-from x m (all_at (int_eq x) xs m same later)) ∙ head ]

pub only_in : (l : ℤ) (xs : List ℤ) → only_lit xs ≡ Some l → In l xs
only_in l [] is = cc
only_in l (x ∷ xs) is = by (list_all (int_eq x) xs) is
  where
    by : (b : Bool) → cond b (Some x) None ≡ Some l → In l (x ∷ xs)
    by true e = let same : l ≡ x = cc in inl same
    by false e = cc

pub only_from : (l : ℤ) (xs : List ℤ) → In l xs → ((m : ℤ) → In m xs → m ≡ l) → only_lit xs ≡ Some l
only_from l [] i same = absurd i
only_from l (x ∷ xs) i same =
    let here : x ≡ l = same x (inl refl) in
    cond-true (list_all (int_eq x) xs) (Some x) None (all_from (int_eq x) xs (λ m j. int_eq-same x m (here ∙ sym (same m (inr j))))) ∙ ap Some here

-- the one literal that is not false is of the clause, and all others are false
pub record IsOnly (falses c : List ℤ) (l : ℤ) : Type 0 where
  pub of_it : In l c
  pub not_false : contains_lit falses l ≡ false
  pub others : (m : ℤ) → In m c → (contains_lit falses m ≡ true) ⊎ (m ≡ l)

pub only-parts : (falses c : List ℤ) (l : ℤ) → only_lit (open_lits falses c) ≡ Some l → IsOnly falses c l
only-parts falses c l one =
    let found = In-from_filter (λ m. not (contains_lit falses m)) l c (only_in l (open_lits falses c) one) in
    record {
      of_it = found.0;
      not_false = closed (contains_lit falses l) found.1;
      others = λ m i. elim (cases_Bool (contains_lit falses m)) [
        | inl held ↦ inl held
        | inr plain ↦ inr (only_member m l (open_lits falses c) (In-filter (λ k. not (contains_lit falses k)) m c i (ap not plain)) one)
      ];
    }
  where
    closed : (b : Bool) → not b ≡ true → b ≡ false
    closed true h = absurd (false≢true h)
    closed false h = refl

pub only-made : (falses c : List ℤ) (l : ℤ) → IsOnly falses c l → only_lit (open_lits falses c) ≡ Some l
only-made falses c l is =
    only_from l (open_lits falses c) (In-filter (λ m. not (contains_lit falses m)) l c is.of_it (ap not is.not_false))
    (λ m i.
    let found = In-from_filter (λ k. not (contains_lit falses k)) m c i in
    elim (is.others m found.0) [ inl held ↦ absurd (true≢false (sym found.1 ∙ ap not held)) | inr same ↦ same ])

-- ---- literals of selectors

pub true-is_selector : (vars : ℕ) (set : List ℕ) (l : ℤ) → is_true vars set l ≡ true → is_selector vars l ≡ true
true-is_selector vars set (pos v) h = (and_parts (ltb vars v) (has set (v - vars)) h).0
true-is_selector vars set (negsuc v) h = (and_parts (ltb vars (suc v)) (not (has set (suc v - vars))) h).0

pub selector-negated : (vars : ℕ) (l : ℤ) → is_selector vars (neg_ℤ l) ≡ is_selector vars l
selector-negated vars (pos zero) = refl
selector-negated vars (pos (suc v)) = refl
selector-negated vars (negsuc v) = refl

-- no literal of a selector is true together with its negation
pub negated-not_true : (vars : ℕ) (set : List ℕ) (l : ℤ) → is_true vars set l ≡ true → is_true vars set (neg_ℤ l) ≡ false
negated-not_true vars set (pos zero) h = absurd (by (ltb vars 0) refl (and_parts (ltb vars 0) (has set (0 - vars)) h).0)
  where
    by : (b : Bool) → ltb vars 0 ≡ b → b ≡ true → ⊥
    by true is t = let low : vars < 0 = ltb-true vars 0 is in omega arith
    by false is t = false≢true t
negated-not_true vars set (pos (suc v)) h = turned (ltb vars (suc v)) (has set (suc v - vars)) (and_parts (ltb vars (suc v)) (has set (suc v - vars)) h).1
  where
    turned : (a b : Bool) → b ≡ true → (a && not b) ≡ false
    turned true true t = refl
    turned false true t = refl
    turned a false t = absurd (false≢true t)
negated-not_true vars set (negsuc v) h = turned (ltb vars (suc v)) (has set (suc v - vars)) (and_parts (ltb vars (suc v)) (not (has set (suc v - vars))) h).1
  where
    turned : (a b : Bool) → not b ≡ true → (a && b) ≡ false
    turned true false t = refl
    turned false false t = refl
    turned a true t = absurd (false≢true t)

pub not_selector-not_true : (vars : ℕ) (set : List ℕ) (l : ℤ) → is_selector vars l ≡ false → is_true vars set l ≡ false
not_selector-not_true vars set l plain = elim (cases_Bool (is_true vars set l)) [ inl held ↦ absurd (true≢false (sym (true-is_selector vars set l held) ∙ plain)) | inr off ↦ off ]

-- in a clause that the selectors don't make true, no literal is true
pub unsettled-at : (vars : ℕ) (set : List ℕ) (c : List ℤ) (l : ℤ) → is_settled vars set c ≡ false → In l c → is_true vars set l ≡ false
unsettled-at vars set c l bare i = elim (cases_Bool (is_true vars set l)) [ inl held ↦ absurd (true≢false (sym (any_at (is_true vars set) c l i held) ∙ bare)) | inr off ↦ off ]

pub bared-In : (vars : ℕ) (c : List ℤ) (l : ℤ) → In l c → is_selector vars l ≡ false → In l (bared vars c)
bared-In vars c l i plain = In-filter (λ k. not (is_selector vars k)) l c i (ap not plain)

pub In-bared : (vars : ℕ) (c : List ℤ) (l : ℤ) → In l (bared vars c) → In l c × (is_selector vars l ≡ false)
In-bared vars c l i = let found = In-from_filter (λ k. not (is_selector vars k)) l c i in (found.0, closed (is_selector vars l) found.1)
  where
    closed : (b : Bool) → not b ≡ true → b ≡ false
    closed true h = absurd (false≢true h)
    closed false h = refl

pub bared-contains : (vars : ℕ) (c : List ℤ) (l : ℤ) → is_selector vars l ≡ false → contains_lit c l ≡ contains_lit (bared vars c) l
bared-contains vars c l plain = elim (cases_Bool (contains_lit c l)) [
  | inl held ↦ held ∙ sym (contains-In (bared vars c) l (bared-In vars c l (In-contains c l held) plain))
  | inr off ↦ off ∙ sym (elim (cases_Bool (contains_lit (bared vars c) l)) [
    | inl held ↦ absurd (true≢false (sym (contains-In c l (In-bared vars c l (In-contains (bared vars c) l held)).0) ∙ off))
    | inr plain ↦ plain
  ])
]
