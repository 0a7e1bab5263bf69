-- That two sets share no group but, maybe, this one is said alike by the groups of either.
use Rattle.std.proofs.Common.{◌≡◌, ℕ, Bool, true, false, not, ◌&&◌, ◌||◌, List, [], ◌∷◌, refl, sym, ◌∙◌, ap, inl, inr, eqb}
use Rattle.std.specs.List.{list_all}
use Rattle.std.proofs.lemmas.Bool.{cases_eq, eq-eqb, ne_eqb}
use Rattle.gm_base.specs.Sets.{has, without}
use Rattle.gm_base.proofs.SetLemmas.{has-without}

-- the second set has none of the groups of the first but, maybe, this one
abbrev pub are_apart : ℕ → List ℕ → List ℕ → Bool
are_apart g a b = list_all (λ h. not (has (without b g) h)) a

apart-nil : (g : ℕ) (a : List ℕ) → are_apart g a [] ≡ true
apart-nil g [] = refl
apart-nil g (h ∷ hs) = apart-nil g hs

swap : (a b p : Bool) → (a && (b && p)) ≡ (b && (a && p))
swap true true p = refl
swap true false p = refl
swap false true p = refl
swap false false p = refl

-- where the new group of the second set is the first one of the first
met : (e u v p : Bool) → (not (not e && (true || u)) && (not (not e && v) && p)) ≡ (not (not e && (true || v)) && (not (not e && u) && p))
met true u v p = refl
met false u v p = refl

apart-cons : (g x : ℕ) (a b : List ℕ) → are_apart g a (x ∷ b) ≡ (not (not (eqb x g) && has a x) && are_apart g a b)
apart-cons g x [] b = sym (by (eqb x g))
  where
    by : (e : Bool) → (not (not e && false) && true) ≡ true
    by true = refl
    by false = refl
apart-cons g x (h ∷ hs) b =
    ap (λ t. not t && are_apart g hs (x ∷ b)) (has-without (x ∷ b) g h)
    ∙ ap (λ t. not (not (eqb h g) && (eqb x h || has b h)) && t) (apart-cons g x hs b)
    ∙ both
    ∙ sym (ap (λ t. not (not (eqb x g) && (eqb h x || has hs x)) && (not t && are_apart g hs b)) (has-without b g h))
  where
    p : Bool
    p = are_apart g hs b

    both : (not (not (eqb h g) && (eqb x h || has b h)) && (not (not (eqb x g) && has hs x) && are_apart g hs b))
        ≡ (not (not (eqb x g) && (eqb h x || has hs x)) && (not (not (eqb h g) && has b h) && are_apart g hs b))
    both =
        elim (cases_eq x h) [
          | inl same ↦
              ap (λ t. not (not (eqb h g) && (t || has b h)) && (not (not (eqb x g) && has hs x) && p)) (eq-eqb x h same)
              ∙ ap (λ (n : ℕ). not (not (eqb h g) && (true || has b h)) && (not (not (eqb n g) && has hs x) && p)) same
              ∙ met (eqb h g) (has b h) (has hs x) p
              ∙ sym
              (ap (λ t. not (not (eqb x g) && (t || has hs x)) && (not (not (eqb h g) && has b h) && p)) (eq-eqb h x (sym same))
              ∙ ap (λ (n : ℕ). not (not (eqb n g) && (true || has hs x)) && (not (not (eqb h g) && has b h) && p)) same)
          | inr other ↦
              ap (λ t. not (not (eqb h g) && (t || has b h)) && (not (not (eqb x g) && has hs x) && p)) (ne_eqb x h other)
              ∙ swap (not (not (eqb h g) && has b h)) (not (not (eqb x g) && has hs x)) p
              ∙ sym
              (ap (λ t. not (not (eqb x g) && (t || has hs x)) && (not (not (eqb h g) && has b h) && p)) (ne_eqb h x (λ same. other (sym same))))
        ]

pub apart-sym : (g : ℕ) (a b : List ℕ) → are_apart g a b ≡ are_apart g b a
apart-sym g a [] = apart-nil g a
apart-sym g a (x ∷ b) =
    apart-cons g x a b
    ∙ ap (λ t. not (not (eqb x g) && has a x) && t) (apart-sym g a b)
    ∙ sym (ap (λ t. not t && are_apart g b a) (has-without a g x))
