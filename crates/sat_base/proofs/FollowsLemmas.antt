-- A clause that follows by its hints is true wherever the clauses before it are.
use Rattle.std.proofs.Common.{◌≡◌, ℕ, zero, suc, ◌-◌, ◌<◌, Bool, true, false, not, cond, List, [], ◌∷◌, get_or, Option, Some, None, refl, sym, ◌∙◌, ap, subst, inl, inr, arith}
use Rattle.std.specs.Prelude.{ℤ, pos, negsuc, neg_ℤ}
use Rattle.std.specs.Ordering.{int_eq}
use Rattle.std.specs.List.{list_all, filter}
use Rattle.std.specs.Option.{option_map_or}
use Rattle.std.proofs.lemmas.Bool.{false≢true, false_from_ne_true, true_from_ne_false, cond-true}
use Rattle.std.proofs.lemmas.Bool.Decides.{Decides-int_eq}
use Rattle.sat_base.specs.Literals.{var_of, literal_true, clause_true}
use Rattle.sat_base.specs.Derivation.{clause_of, contains_lit, open_lits, only_lit, is_nil, follows}
use Rattle.sat_base.specs.Members.{In}
use Rattle.sat_base.proofs.Members.{all_at, any_at, any_from}

-- the clause is true, and none of its literals is 0
pub record Holds (assign : List Bool) (clause : List ℤ) : Type 0 where
  pub is_true : clause_true assign clause ≡ true
  pub not_zero : (l : ℤ) → In l clause → 0 < var_of l

-- each clause that an id names holds
abbrev pub KnownHold : List Bool → List (ℕ × List ℤ) → Type 0
KnownHold assign known = (id : ℕ) (c : List ℤ) → clause_of known id ≡ Some c → Holds assign c

-- the assignment makes each of these literals false
abbrev pub MakesFalse : List Bool → List ℤ → Type 0
MakesFalse assign falses = (l : ℤ) → In l falses → literal_true assign l ≡ false

pub literal_true-neg : (assign : List Bool) (l : ℤ) → 0 < var_of l → literal_true assign (neg_ℤ l) ≡ not (literal_true assign l)
literal_true-neg assign (pos zero) h = absurd (omega arith)
literal_true-neg assign (pos (suc v)) h = let same : suc v - 1 ≡ v = omega arith in ap (λ i. not (get_or assign i false)) (sym same)
literal_true-neg assign (negsuc v) h = let same : suc v - 1 ≡ v = omega arith in ap (λ i. get_or assign i false) same ∙ sym (not_not (get_or assign v false))
  where
    not_not : (b : Bool) → not (not b) ≡ b
    not_not true = refl
    not_not false = refl

In-filter : (p : ℤ → Bool) (m : ℤ) (xs : List ℤ) → In m xs → p m ≡ true → In m (filter p xs)
In-filter p m [] h t = absurd h
In-filter p m (x ∷ xs) (inl e) t = subst (In m) (sym (cond-true (p x) (x ∷ filter p xs) (filter p xs) (sym (ap p e) ∙ t))) (inl e)
In-filter p m (x ∷ xs) (inr h) t = here (p x) (In-filter p m xs h t)
  where
    here : (b : Bool) → In m (filter p xs) → In m (cond b (x ∷ filter p xs) (filter p xs))
    here true rest = inr rest
    here false rest = rest

-- a clause that holds has a true literal among those that are not false
open_literal : (assign : List Bool) (falses c : List ℤ) → MakesFalse assign falses → Holds assign c → (m : ℤ) × In m (open_lits falses c) × (literal_true assign m ≡ true) × (0 < var_of m)
open_literal assign falses c made_false holds =
    let (m, i, t) = any_from (literal_true assign) c holds.is_true in
    let not_false : contains_lit falses m ≡ false =
    false_from_ne_true (contains_lit falses m)
    (λ e.
    let (k, j, same) = any_from (λ k. int_eq k m) falses e in
    false≢true (sym (made_false k j) ∙ ap (literal_true assign) ((Decides-int_eq k m).0 same) ∙ t)) in
    (m, In-filter (λ l. not (contains_lit falses l)) m c i (ap not not_false), t, holds.not_zero m i)

not_nil : (m : ℤ) (xs : List ℤ) → In m xs → is_nil xs ≡ true → ⊥
not_nil m [] h t = h
not_nil m (x ∷ xs) h t = false≢true t

only_one : (m l : ℤ) (xs : List ℤ) → In m xs → only_lit xs ≡ Some l → m ≡ l
only_one m l [] h e = absurd h
only_one m l (x ∷ xs) h e = here (list_all (int_eq x) xs) refl e
  where
    here : (b : Bool) → list_all (int_eq x) xs ≡ b → cond b (Some x) None ≡ Some l → m ≡ l
    here false same f = absurd (cc)
    here true same f =
        let head : x ≡ l = cc in
        elim h [ inl first ↦ first ∙ head | inr later ↦ sym ((Decides-int_eq x m).0 (all_at (int_eq x) xs m same later)) ∙ head ]

MakesFalse-cons : (assign : List Bool) (falses : List ℤ) (l : ℤ) → MakesFalse assign falses → literal_true assign l ≡ false → MakesFalse assign (l ∷ falses)
MakesFalse-cons assign falses l made_false here m (inl same) = ap (literal_true assign) same ∙ here
MakesFalse-cons assign falses l made_false here m (inr i) = made_false m i

-- where the known clauses hold and these literals are false, no hints lead to a clause that is false
pub follows-sound : (assign : List Bool) (known : List (ℕ × List ℤ)) → KnownHold assign known → (hints : List ℕ) (falses : List ℤ) → MakesFalse assign falses → follows known falses hints ≡ true → ⊥
follows-sound assign known hold [] falses made_false f = false≢true f
follows-sound assign known hold (h ∷ []) falses made_false f = last (clause_of known h) refl f
  where
    last : (o : Option (List ℤ)) → clause_of known h ≡ o → option_map_or (λ c. is_nil (open_lits falses c)) o false ≡ true → ⊥
    last None e t = false≢true t
    last (Some c) e t =
        let (m, i, is_true, not_zero) = open_literal assign falses c made_false (hold h c e) in
        not_nil m (open_lits falses c) i t
follows-sound assign known hold (h ∷ h' ∷ hs) falses made_false f = unit (clause_of known h) refl f (follows-sound assign known hold (h' ∷ hs))
  where
    goes : (c : List ℤ) → Holds assign c → (o : Option ℤ) → only_lit (open_lits falses c) ≡ o
        → option_map_or (λ l. follows known (neg_ℤ l ∷ falses) (h' ∷ hs)) o false ≡ true
        → ((more : List ℤ) → MakesFalse assign more → follows known more (h' ∷ hs) ≡ true → ⊥) → ⊥
    goes c holds None e t rest = false≢true t
    goes c holds (Some l) e t rest =
        let (m, i, is_true, not_zero) = open_literal assign falses c made_false holds in
        let same : m ≡ l = only_one m l (open_lits falses c) i e in
        let made : literal_true assign l ≡ true = sym (ap (literal_true assign) same) ∙ is_true in
        let low : 0 < var_of l = subst (λ k. 0 < var_of k) same not_zero in
        rest (neg_ℤ l ∷ falses) (MakesFalse-cons assign falses (neg_ℤ l) made_false (literal_true-neg assign l low ∙ ap not made)) t

    unit : (o : Option (List ℤ)) → clause_of known h ≡ o
        → option_map_or (λ c. option_map_or (λ l. follows known (neg_ℤ l ∷ falses) (h' ∷ hs)) (only_lit (open_lits falses c)) false) o false ≡ true
        → ((more : List ℤ) → MakesFalse assign more → follows known more (h' ∷ hs) ≡ true → ⊥) → ⊥
    unit None e t rest = false≢true t
    unit (Some c) e t rest = goes c (hold h c e) (only_lit (open_lits falses c)) refl t rest

-- so a clause that follows from clauses that hold is true
pub follows-true : (assign : List Bool) (known : List (ℕ × List ℤ)) (lits : List ℤ) (hints : List ℕ) → KnownHold assign known → follows known lits hints ≡ true → clause_true assign lits ≡ true
follows-true assign known lits hints hold f =
    true_from_ne_false (clause_true assign lits)
    (λ e. follows-sound assign known hold hints lits (λ l i. false_from_ne_true (literal_true assign l) (λ t. false≢true (sym e ∙ any_at (literal_true assign) lits l i t))) f)
