-- Propagation where literals and ids have other names: what follows by its hints follows still.
use Rattle.std.proofs.Common.{◌≡◌, ℕ, Bool, true, false, not, cond, List, [], ◌∷◌, map, Option, Some, None, refl, sym, ◌∙◌, ap, ap₂}
use Rattle.std.specs.Prelude.{ℤ, neg_ℤ, ◌||◌, ◌&&◌}
use Rattle.std.specs.Ordering.{int_eq}
use Rattle.std.specs.List.{list_all}
use Rattle.std.specs.Option.{option_map, option_map_or}
use Rattle.std.proofs.lemmas.Bool.{false≢true}
use Rattle.sat_base.specs.Derivation.{clause_of, contains_lit, open_lits, only_lit, is_nil, follows}

-- other names for literals, of which no two are the same, and that of a negation is the negation
pub record IsRenaming (name : ℤ → ℤ) : Type 0 where
  pub negated : (l : ℤ) → name (neg_ℤ l) ≡ neg_ℤ (name l)
  pub apart : (a b : ℤ) → int_eq (name a) (name b) ≡ int_eq a b

-- the clause of each id is known by other names
abbrev pub Carries : (ℤ → ℤ) → (ℕ → ℕ) → List (ℕ × List ℤ) → List (ℕ × List ℤ) → Type 0
Carries name number known new = (id : ℕ) (c : List ℤ) → clause_of known id ≡ Some c → clause_of new (number id) ≡ Some (map name c)

pub some_of : {X : Type 0} (o : Option X) (test : X → Bool) → option_map_or test o false ≡ true → (x : X) × (o ≡ Some x) × (test x ≡ true)
some_of None test e = absurd (false≢true e)
some_of (Some x) test e = (x, refl, e)

module _ (name : ℤ → ℤ) (ok : IsRenaming name) where
  pub contains-renamed : (ls : List ℤ) (l : ℤ) → contains_lit (map name ls) (name l) ≡ contains_lit ls l
  contains-renamed [] l = refl
  contains-renamed (m ∷ ms) l = ap₂ (λ a b. a || b) (ok.apart m l) (contains-renamed ms l)

  open-renamed : (falses c : List ℤ) → open_lits (map name falses) (map name c) ≡ map name (open_lits falses c)
  open-renamed falses [] = refl
  open-renamed falses (l ∷ ls) =
      ap₂ (λ b xs. cond (not b) (name l ∷ xs) xs) (contains-renamed falses l) (open-renamed falses ls) ∙ by (contains_lit falses l)
    where
      by : (b : Bool) → cond (not b) (name l ∷ map name (open_lits falses ls)) (map name (open_lits falses ls)) ≡ map name (cond (not b) (l ∷ open_lits falses ls) (open_lits falses ls))
      by true = refl
      by false = refl

  same-renamed : (x : ℤ) (xs : List ℤ) → list_all (int_eq (name x)) (map name xs) ≡ list_all (int_eq x) xs
  same-renamed x [] = refl
  same-renamed x (y ∷ ys) = ap₂ (λ a b. a && b) (ok.apart x y) (same-renamed x ys)

  only-renamed : (xs : List ℤ) → only_lit (map name xs) ≡ option_map name (only_lit xs)
  only-renamed [] = refl
  only-renamed (x ∷ xs) = ap (λ b. cond b (Some (name x)) None) (same-renamed x xs) ∙ by (list_all (int_eq x) xs)
    where
      by : (b : Bool) → cond b (Some (name x)) None ≡ option_map name (cond b (Some x) None)
      by true = refl
      by false = refl

  nil-renamed : (xs : List ℤ) → is_nil (map name xs) ≡ is_nil xs
  nil-renamed [] = refl
  nil-renamed (x ∷ xs) = refl

  pub follows-renamed : (number : ℕ → ℕ) (known new : List (ℕ × List ℤ)) → Carries name number known new → (falses : List ℤ) (hints : List ℕ)
      → follows known falses hints ≡ true → follows new (map name falses) (map number hints) ≡ true
  follows-renamed number known new carries falses [] f = absurd (false≢true f)
  follows-renamed number known new carries falses (h ∷ []) f =
      let (c, is, nil) = some_of (clause_of known h) (λ (c : List ℤ). is_nil (open_lits falses c)) f in
      ap (λ (o : Option (List ℤ)). option_map_or (λ (c : List ℤ). is_nil (open_lits (map name falses) c)) o false) (carries h c is)
      ∙ ap is_nil (open-renamed falses c) ∙ nil-renamed (open_lits falses c) ∙ nil
  follows-renamed number known new carries falses (h ∷ k ∷ hs) f =
      let (c, is, more) =
      some_of (clause_of known h) (λ (c : List ℤ). option_map_or (λ (l : ℤ). follows known (neg_ℤ l ∷ falses) (k ∷ hs)) (only_lit (open_lits falses c)) false) f in
      let (l, only, rest) = some_of (only_lit (open_lits falses c)) (λ (l : ℤ). follows known (neg_ℤ l ∷ falses) (k ∷ hs)) more in
      let next : follows new (name (neg_ℤ l) ∷ map name falses) (number k ∷ map number hs) ≡ true = follows-renamed number known new carries (neg_ℤ l ∷ falses) (k ∷ hs) rest in
      let unit : only_lit (open_lits (map name falses) (map name c)) ≡ Some (name l) =
      ap only_lit (open-renamed falses c) ∙ only-renamed (open_lits falses c) ∙ ap (option_map name) only in
      ap
      (λ (o : Option (List ℤ)).
      option_map_or (λ (c : List ℤ). option_map_or (λ (l : ℤ). follows new (neg_ℤ l ∷ map name falses) (number k ∷ map number hs)) (only_lit (open_lits (map name falses) c)) false) o false)
      (carries h c is)
      ∙ ap (λ (o : Option ℤ). option_map_or (λ (l : ℤ). follows new (neg_ℤ l ∷ map name falses) (number k ∷ map number hs)) o false) unit
      ∙ ap (λ (m : ℤ). follows new (m ∷ map name falses) (number k ∷ map number hs)) (sym (ok.negated l)) ∙ next
