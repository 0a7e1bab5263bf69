-- What a set of numbers knows, with one number more.
use Rattle.std.proofs.Common.{◌≡◌, ℕ, ◌+◌, ◌<◌, ◌≤◌, Bool, true, false, not, ◌||◌, cond, List, [], ◌∷◌, ◌++◌, length, take, get_or, refl, sym, ◌∙◌, ap, subst, inl, inr, eqb, arith, length-append}
use Rattle.std.specs.Ordering.{nat_cmp, is_eq}
use Rattle.std.specs.declared.cmp.Ordering.TheVariants.{Less, Equal, Greater}
use Rattle.std.specs.Cmp.{nat_cmp_is}
use Rattle.std.specs.BTreeSet.{BTreeSet, contains, Updates}
use Rattle.std.proofs.lemmas.Bool.{false≢true, false_from_ne_true, cases_order, eq-eqb, ne_eqb, eqb-true, eqb-false, or_parts, or_from, or_right, or_left, not-true}
use Rattle.std.proofs.lemmas.List.{take_more, take_at, take-take}
use Rattle.std.proofs.lemmas.List.Folds.{list_any-append}
use Rattle.gm_base.specs.Sets.{has}
use Rattle.size_counter.specs.Sizes.{AreDistinct}
use Rattle.size_counter.specs.Known.{KnowsAll, Knows}
use Rattle.size_counter.proofs.NameLemmas.{has-push}

-- the order of the set finds two numbers equal just if they are
pub is_eq-nat_cmp : (x y : ℕ) → is_eq (nat_cmp x y) ≡ eqb x y
is_eq-nat_cmp x y =
    elim (cases_order x y) [
      | inl same ↦ ap is_eq (sym (nat_cmp_is x y Equal same)) ∙ sym (eq-eqb x y same)
      | inr other ↦
          elim other [
            | inl below ↦ ap is_eq (sym (nat_cmp_is x y Less below)) ∙ sym (ne_eqb x y (λ e. absurd (omega arith)))
            | inr above ↦ ap is_eq (sym (nat_cmp_is x y Greater above)) ∙ sym (ne_eqb x y (λ e. absurd (omega arith)))
          ]
    ]

-- one number more
pub KnowsAll-push : (old new : BTreeSet ℕ) (numbers : List ℕ) (g : ℕ) → KnowsAll old numbers → Updates nat_cmp old new g true
    → KnowsAll new (numbers ++ g ∷ [])
KnowsAll-push old new numbers g knows updates q =
    updates.0 q ∙ ap (λ b. cond b true (contains nat_cmp old q)) (is_eq-nat_cmp g q)
    ∙ ap (λ b. cond (eqb g q) true b) (knows q)
    ∙ by (eqb g q) (has numbers q) ∙ sym (has-push numbers g q)
  where
    by : (a b : Bool) → cond a true b ≡ (b || (a || false))
    by true true = refl
    by true false = refl
    by false true = refl
    by false false = refl

-- the same if the number is the next one of a list
pub KnowsAll-more : (old new : BTreeSet ℕ) (numbers : List ℕ) (i : ℕ) → i < length numbers → KnowsAll old (take i numbers)
    → Updates nat_cmp old new (get_or numbers i 0) true → KnowsAll new (take (i + 1) numbers)
KnowsAll-more old new numbers i lt knows updates =
    subst (KnowsAll new) (sym (take_more numbers i 0 lt)) (KnowsAll-push old new (take i numbers) (get_or numbers i 0) knows updates)

-- numbers that differ still do with one behind them that none of them is
distinct-push : (xs : List ℕ) (g : ℕ) → AreDistinct xs → has xs g ≡ false → AreDistinct (xs ++ g ∷ [])
distinct-push [] g d new = (refl, tt)
distinct-push (x ∷ xs) g d new =
    let parts = or_parts (eqb x g) (has xs g) new in (
      has-push xs g x ∙ or_from (has xs x) (eqb g x || false) d.0 (or_from (eqb g x) false (ne_eqb g x (λ e. eqb-false x g parts.0 (sym e))) refl),
      distinct-push xs g d.1 parts.1,
    )

-- a number that was not known comes behind
pub Knows-new : (old new : BTreeSet ℕ) (numbers : List ℕ) (g : ℕ) → Knows old numbers → true ≡ not (contains nat_cmp old g)
    → Updates nat_cmp old new g true → Knows new (numbers ++ g ∷ [])
Knows-new old new numbers g k added updates =
    (distinct-push numbers g k.0 (sym (k.1 g) ∙ not-true (contains nat_cmp old g) (sym added)), KnowsAll-push old new numbers g k.1 updates)

-- of numbers that differ the first ones do
distinct-front : (xs ys : List ℕ) → AreDistinct (xs ++ ys) → AreDistinct xs
distinct-front [] ys d = tt
distinct-front (x ∷ xs) ys d =
    (false_from_ne_true (has xs x) (λ h. absurd (false≢true (sym d.0 ∙ (list_any-append (λ k. eqb k x) xs ys ∙ or_left (has xs x) (has ys x) h)))), distinct-front xs ys d.1)

-- and the last one is not among those before it
not-in-front : (xs : List ℕ) (g : ℕ) → AreDistinct (xs ++ g ∷ []) → has xs g ≡ false
not-in-front [] g d = refl
not-in-front (x ∷ xs) g d =
    or_from (eqb x g) (has xs g)
    (ne_eqb x g (λ e. absurd (false≢true (sym d.0 ∙ (list_any-append (λ k. eqb k x) xs (g ∷ []) ∙ or_right (has xs x) (eqb g x || false) (or_left (eqb g x) false (eq-eqb g x (sym e))))))))
    (not-in-front xs g d.1)

-- the last one is taken out
pub Knows-pop : (old new : BTreeSet ℕ) (numbers front : List ℕ) (g : ℕ) → Knows old numbers → numbers ≡ front ++ g ∷ []
    → Updates nat_cmp old new g false → Knows new front
Knows-pop old new numbers front g k is updates =
    let d = subst AreDistinct is k.0 in (
      distinct-front front (g ∷ []) d,
      λ q.
          updates.0 q ∙ ap (λ b. cond b false (contains nat_cmp old q)) (is_eq-nat_cmp g q)
          ∙ ap (λ b. cond (eqb g q) false b) (k.1 q ∙ ap (λ xs. has xs q) is ∙ has-push front g q)
          ∙ by q (eqb g q) refl (not-in-front front g d),
    )
  where
    by : (q : ℕ) (b : Bool) → eqb g q ≡ b → has front g ≡ false → cond b false (has front q || (b || false)) ≡ has front q
    by q true e out = sym (subst (λ n. has front n ≡ false) (eqb-true g q e) out)
    by q false e out = or_false (has front q)
      where
        or_false : (b : Bool) → (b || false) ≡ b
        or_false true = refl
        or_false false = refl

-- the first numbers, as many as are left
pub record CutTo (whole : List ℕ) (len : ℕ) (known : BTreeSet ℕ) (numbers : List ℕ) : Type 0 where
  pub are : numbers ≡ take (length numbers) whole
  pub most : length numbers ≤ length whole
  pub least : len ≤ length numbers
  pub knows : Knows known numbers

-- without the last one they are still the first ones, and no fewer than wanted are left
pub CutTo-pop : (whole : List ℕ) (len : ℕ) (old new : BTreeSet ℕ) (numbers front : List ℕ) (g : ℕ) → len < length numbers
    → CutTo whole len old numbers → numbers ≡ front ++ g ∷ [] → Updates nat_cmp old new g false → CutTo whole len new front
CutTo-pop whole len old new numbers front g more c is updates =
    let size : length numbers ≡ length front + 1 = ap length is ∙ length-append front (g ∷ []) in
    let high = c.most in
    record {
      are = sym (take_at front (g ∷ []) (length front) refl) ∙ ap (take (length front)) (sym is ∙ c.are) ∙ take-take (length front) (length numbers) whole (omega arith);
      most = omega arith;
      least = omega arith;
      knows = Knows-pop old new numbers front g c.knows is updates;
    }
