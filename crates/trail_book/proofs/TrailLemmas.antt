-- What holds of the definitions of a trail: entries up to a level, how many there can be, and unit steps.
use Rattle.std.proofs.Common.{◌≡◌, ◌⊎◌, ℕ, zero, suc, ◌+◌, ◌-◌, ◌<◌, ◌≤◌, Bool, true, false, List, [], ◌∷◌, ◌++◌, length, map, drop, Option, Some, None, refl, sym, ◌∙◌, ap, subst, inl, inr, arith, eqb}
use Rattle.std.specs.Prelude.{ℤ, pos, negsuc, neg_ℤ, nat_le, ◌==◌, if◌then◌else◌}
use Rattle.std.specs.List.{list_any}
use Rattle.std.proofs.lemmas.Bool.{eq-eqb, ne_eqb, cond-true, cond-false, cases_eq}
use Rattle.std.proofs.lemmas.Bool.Decides.{leb_tells}
use Rattle.std.proofs.lemmas.List.{length-map}
use Rattle.std.proofs.Math.IntN.{neg_ℤ-neg_ℤ}
use Rattle.sat_base.specs.Literals.{var_of, IsLiteral}
use Rattle.sat_base.specs.Members.{In}
use Rattle.sat_base.specs.Units.{IsUnset}
use Rattle.sat_base.proofs.Members.{In-append_right, In-map, In-from_map}
use Rattle.trail_book.specs.declared.entry.Entry.{Entry}
use Rattle.trail_book.specs.Trail.{trues, level_after, top, keep, oldest, IsTrail, with_unit}

pub level_after-at_least : (r : Option ℕ) (n : ℕ) → n ≤ level_after r n
level_after-at_least None n = omega arith
level_after-at_least (Some i) n = omega arith

pub top-append : (up low : List Entry) → top low ≤ top (up ++ low)
top-append [] low = omega arith
top-append (u ∷ up) low =
    let rest = top-append up low in
    let more = level_after-at_least u.reason (top (up ++ low)) in
    omega (arith, rest, more)

-- each level has an entry
pub top_le-length : (es : List Entry) → top es ≤ length es
top_le-length [] = omega arith
top_le-length (e ∷ es) = by e.reason (top_le-length es)
  where
    by : (r : Option ℕ) → top es ≤ length es → level_after r (top es) ≤ suc (length es)
    by None h = omega (arith, h)
    by (Some id) h = omega (arith, h)

-- a list within the level is kept whole
pub keep-whole : (k : ℕ) (es : List Entry) → top es ≤ k → keep k es ≡ es
keep-whole k [] h = refl
keep-whole k (e ∷ es) h = elim (leb_tells (top (e ∷ es)) k) [
  | inl kept ↦ cond-true (nat_le (top (e ∷ es)) k) (e ∷ es) (keep k es) kept.0
  | inr above ↦ absurd (omega (arith, above.1, h))
]

pub keep-skip : (k : ℕ) (e : Entry) (es : List Entry) → k < top (e ∷ es) → keep k (e ∷ es) ≡ keep k es
keep-skip k e es h = elim (leb_tells (top (e ∷ es)) k) [
  | inl kept ↦ absurd (omega (arith, kept.1, h))
  | inr above ↦ cond-false (nat_le (top (e ∷ es)) k) (e ∷ es) (keep k es) above.0
]

-- entries above the level do not count
pub keep-over : (k : ℕ) (up : List Entry) (e : Entry) (low : List Entry) → k < top (e ∷ low) → keep k (up ++ e ∷ low) ≡ keep k low
keep-over k [] e low h = keep-skip k e low h
keep-over k (u ∷ up) e low h =
    let more = top-append up (e ∷ low) in
    let again = level_after-at_least u.reason (top (up ++ e ∷ low)) in
    keep-skip k u (up ++ e ∷ low) (omega (arith, more, again, h)) ∙ keep-over k up e low h

pub top-keep : (k : ℕ) (es : List Entry) → top (keep k es) ≤ k
top-keep k [] = omega arith
top-keep k (e ∷ es) = elim (leb_tells (top (e ∷ es)) k) [
  | inl kept ↦ subst (λ (xs : List Entry). top xs ≤ k) (sym (keep-whole k (e ∷ es) kept.1)) kept.1
  | inr above ↦ subst (λ (xs : List Entry). top xs ≤ k) (sym (keep-skip k e es above.1)) (top-keep k es)
]

-- down to a level that is there, exactly that is left
pub top-keep_exact : (k : ℕ) (es : List Entry) → k ≤ top es → top (keep k es) ≡ k
top-keep_exact k [] h = omega arith
top-keep_exact k (e ∷ es) h = elim (leb_tells (top (e ∷ es)) k) [
  | inl kept ↦ ap top (keep-whole k (e ∷ es) kept.1) ∙ (let same : top (e ∷ es) ≡ k = omega (arith, kept.1, h) in same)
  | inr above ↦ ap top (keep-skip k e es above.1) ∙ top-keep_exact k es (below e.reason above.1)
]
  where
    below : (r : Option ℕ) → k < level_after r (top es) → k ≤ top es
    below None h = omega arith
    below (Some i) h = omega arith

pub keep-under : (k : ℕ) (up low : List Entry) (x : Entry) → top low ≤ k → In x low → In x (keep k (up ++ low))
keep-under k [] low x h i = subst (In x) (sym (keep-whole k low h)) i
keep-under k (u ∷ up) low x h i = elim (leb_tells (top (u ∷ (up ++ low))) k) [
  | inl kept ↦ subst (In x) (sym (keep-whole k (u ∷ (up ++ low)) kept.1)) (inr (In-append_right x up low i))
  | inr above ↦ subst (In x) (sym (keep-skip k u (up ++ low) above.1)) (keep-under k up low x h i)
]

pub keep-in : (k : ℕ) (es : List Entry) (x : Entry) → In x (keep k es) → In x es
keep-in k [] x i = i
keep-in k (e ∷ es) x i = elim (leb_tells (top (e ∷ es)) k) [
  | inl kept ↦ subst (In x) (keep-whole k (e ∷ es) kept.1) i
  | inr above ↦ inr (keep-in k es x (subst (In x) (keep-skip k e es above.1) i))
]

pub keep-more : (k n : ℕ) (es : List Entry) (x : Entry) → k ≤ n → In x (keep k es) → In x (keep n es)
keep-more k n [] x h i = i
keep-more k n (e ∷ es) x h i = elim (leb_tells (top (e ∷ es)) n) [
  | inl kept ↦ subst (In x) (sym (keep-whole n (e ∷ es) kept.1)) (keep-in k (e ∷ es) x i)
  | inr above ↦
      subst (In x) (sym (keep-skip n e es above.1)) (keep-more k n es x h (subst (In x) (keep-skip k e es (omega (arith, above.1, h))) i))
]

-- the same of literals
pub In-trues : (x : Entry) (es : List Entry) → In x es → In x.lit (trues es)
In-trues x [] h = h
In-trues x (e ∷ es) (inl same) = inl (ap (λ (y : Entry). y.lit) same)
In-trues x (e ∷ es) (inr later) = inr (In-trues x es later)

pub In-from_trues : (l : ℤ) (es : List Entry) → In l (trues es) → (x : Entry) × In x es × (x.lit ≡ l)
In-from_trues l [] h = absurd h
In-from_trues l (e ∷ es) (inl same) = (e, inl refl, sym same)
In-from_trues l (e ∷ es) (inr later) = let (x, i, is) = In-from_trues l es later in (x, inr i, is)

pub lit-keep_in : (k : ℕ) (es : List Entry) (l : ℤ) → In l (trues (keep k es)) → In l (trues es)
lit-keep_in k es l h = let (x, i, is) = In-from_trues l (keep k es) h in subst (λ m. In m (trues es)) is (In-trues x es (keep-in k es x i))

pub lit-keep_more : (k n : ℕ) (es : List Entry) (l : ℤ) → k ≤ n → In l (trues (keep k es)) → In l (trues (keep n es))
lit-keep_more k n es l h i0 =
    let (x, i, is) = In-from_trues l (keep k es) i0 in subst (λ m. In m (trues (keep n es))) is (In-trues x (keep n es) (keep-more k n es x h i))

pub IsTrail-keep : (vars k : ℕ) (es : List Entry) → IsTrail vars es → IsTrail vars (keep k es)
IsTrail-keep vars k [] h = h
IsTrail-keep vars k (e ∷ es) h = elim (leb_tells (top (e ∷ es)) k) [
  | inl kept ↦ subst (IsTrail vars) (sym (keep-whole k (e ∷ es) kept.1)) h
  | inr above ↦ subst (IsTrail vars) (sym (keep-skip k e es above.1)) (IsTrail-keep vars k es h.2)
]

-- a trail has no literal with its negation
pub trail_consistent : (vars : ℕ) (es : List Entry) → IsTrail vars es → (l : ℤ) → In l (trues es) → ¬ In (neg_ℤ l) (trues es)
trail_consistent vars [] t l h g = h
trail_consistent vars (e ∷ es) t l (inl same) (inl other) = never l (same ∙ sym other) (subst (λ m. IsLiteral vars m) (sym same) t.1)
  where
    never : (m : ℤ) → m ≡ neg_ℤ m → IsLiteral vars m → ⊥
    never (pos zero) s v = absurd (omega (arith, v.not_zero))
    never (pos (suc n)) s v = cc
    never (negsuc n) s v = cc
trail_consistent vars (e ∷ es) t l (inl same) (inr g) = t.0.not_false (subst (λ m. In (neg_ℤ m) (trues es)) same g)
trail_consistent vars (e ∷ es) t l (inr h) (inl other) = t.0.not_false (subst (λ m. In m (trues es)) (sym (neg_ℤ-neg_ℤ l) ∙ ap neg_ℤ other) h)
trail_consistent vars (e ∷ es) t l (inr h) (inr g) = trail_consistent vars es t.2 l h g

pub trail_vars : (vars : ℕ) (es : List Entry) → IsTrail vars es → (l : ℤ) → In l (trues es) → IsLiteral vars l
trail_vars vars [] t l h = absurd h
trail_vars vars (e ∷ es) t l (inl same) = subst (IsLiteral vars) (sym same) t.1
trail_vars vars (e ∷ es) t l (inr h) = trail_vars vars es t.2 l h

-- Counting: each entry takes a variable.
pub same_var : (m l : ℤ) → var_of m ≡ var_of l → (m ≡ l) ⊎ (m ≡ neg_ℤ l)
same_var (pos a) (pos b) h = inl (ap pos h)
same_var (negsuc a) (negsuc b) h = inl (ap negsuc (omega arith))
same_var (pos a) (negsuc b) h = inr (ap pos h)
same_var (negsuc a) (pos zero) h = absurd (omega arith)
same_var (negsuc a) (pos (suc b)) h = inr (ap negsuc (omega arith))

abbrev has_var : List Entry → ℕ → Bool
has_var es v = list_any (λ (e : Entry). eqb (var_of e.lit) v) es

unset-has_var : (es : List Entry) (l : ℤ) → IsUnset (trues es) l → has_var es (var_of l) ≡ false
unset-has_var [] l f = refl
unset-has_var (e ∷ es) l f =
    rw (ne_eqb (var_of e.lit) (var_of l) (λ same. elim (same_var e.lit l same) [ inl s ↦ f.not_true (inl (sym s)) | inr s ↦ f.not_false (inl (sym s)) ]))
    (unset-has_var es l (record { not_true = λ h. f.not_true (inr h); not_false = λ h. f.not_false (inr h) }))

abbrev one_if_free : Bool → ℕ → ℕ
one_if_free true n = n
one_if_free false n = n + 1

abbrev free : ℕ → List Entry → ℕ
free zero es = 0
free (suc n) es = one_if_free (has_var es (suc n)) (free n es)

free-other : (n : ℕ) (e : Entry) (es : List Entry) → n < var_of e.lit → free n (e ∷ es) ≡ free n es
free-other zero e es h = refl
free-other (suc n) e es h =
    rw (ne_eqb (var_of e.lit) (suc n) (λ s. absurd (omega (arith, s, h)))) (ap (one_if_free (has_var es (suc n))) (free-other n e es (omega arith)))

free-taken : (n : ℕ) (e : Entry) (es : List Entry) → 0 < var_of e.lit → var_of e.lit ≤ n → has_var es (var_of e.lit) ≡ false → free n (e ∷ es) + 1 ≡ free n es
free-taken zero e es low high new = absurd (omega arith)
free-taken (suc n) e es low high new = elim (cases_eq (var_of e.lit) (suc n)) [
  | inl same ↦
      let rest = free-other n e es (omega (arith, same)) in
      let here : has_var es (suc n) ≡ false = subst (λ v. has_var es v ≡ false) same new in
      rw (eq-eqb (var_of e.lit) (suc n) same, here) (omega (arith, rest))
  | inr other ↦ rw (ne_eqb (var_of e.lit) (suc n) other) (both (has_var es (suc n)) (free-taken n e es low (omega (arith, other, high)) new))
]
  where
    both : (b : Bool) → free n (e ∷ es) + 1 ≡ free n es → one_if_free b (free n (e ∷ es)) + 1 ≡ one_if_free b (free n es)
    both true h = h
    both false h = omega arith

free-none : (n : ℕ) → free n [] ≡ n
free-none zero = refl
free-none (suc n) = let rest = free-none n in omega (arith, rest)

free-sum : (vars : ℕ) (es : List Entry) → IsTrail vars es → length es + free vars es ≡ vars
free-sum vars [] t = omega (arith, free-none vars)
free-sum vars (e ∷ es) t =
    let rest = free-sum vars es t.2 in
    let taken = free-taken vars e es t.1.not_zero t.1.in_range (unset-has_var es e.lit t.0) in
    omega (arith, rest, taken)

pub trail_room : (vars : ℕ) (es : List Entry) → IsTrail vars es → length es ≤ vars
trail_room vars es t = omega (arith, free-sum vars es t)

-- A unit step changes neither the literals of the entries nor their reasons.
pub with_unit-lit : (v id : ℕ) (e : Entry) → (with_unit v id e).lit ≡ e.lit
with_unit-lit v id e = by (var_of e.lit == v)
  where
    by : (b : Bool) → (if b then record { lit = e.lit; reason = e.reason; unit = Some id } else e).lit ≡ e.lit
    by true = refl
    by false = refl

pub with_unit-reason : (v id : ℕ) (e : Entry) → (with_unit v id e).reason ≡ e.reason
with_unit-reason v id e = by (var_of e.lit == v)
  where
    by : (b : Bool) → (if b then record { lit = e.lit; reason = e.reason; unit = Some id } else e).reason ≡ e.reason
    by true = refl
    by false = refl

-- the entry of the variable has it, any other is as it was
pub with_unit-same : (v id : ℕ) (e : Entry) → var_of e.lit ≡ v → with_unit v id e ≡ record { lit = e.lit; reason = e.reason; unit = Some id }
with_unit-same v id e same = cond-true (var_of e.lit == v) (record { lit = e.lit; reason = e.reason; unit = Some id }) e (eq-eqb (var_of e.lit) v same)

pub with_unit-other : (v id : ℕ) (e : Entry) → ¬ (var_of e.lit ≡ v) → with_unit v id e ≡ e
with_unit-other v id e other = cond-false (var_of e.lit == v) (record { lit = e.lit; reason = e.reason; unit = Some id }) e (ne_eqb (var_of e.lit) v other)

pub trues-with_unit : (v id : ℕ) (es : List Entry) → trues (map (with_unit v id) es) ≡ trues es
trues-with_unit v id [] = refl
trues-with_unit v id (e ∷ es) =
    ap (λ (l : ℤ). l ∷ trues (map (with_unit v id) es)) (with_unit-lit v id e) ∙ ap (λ (ls : List ℤ). e.lit ∷ ls) (trues-with_unit v id es)

pub top-with_unit : (v id : ℕ) (es : List Entry) → top (map (with_unit v id) es) ≡ top es
top-with_unit v id [] = refl
top-with_unit v id (e ∷ es) =
    ap (λ (r : Option ℕ). level_after r (top (map (with_unit v id) es))) (with_unit-reason v id e) ∙ ap (level_after e.reason) (top-with_unit v id es)

pub length-with_unit : (v id : ℕ) (es : List Entry) → length (map (with_unit v id) es) ≡ length es
length-with_unit v id es = length-map es (with_unit v id)

pub keep-with_unit : (v id k : ℕ) (es : List Entry) → keep k (map (with_unit v id) es) ≡ map (with_unit v id) (keep k es)
keep-with_unit v id k [] = refl
keep-with_unit v id k (e ∷ es) = elim (leb_tells (top (e ∷ es)) k) [
  | inl kept ↦
      keep-whole k (map (with_unit v id) (e ∷ es)) (subst (λ (n : ℕ). n ≤ k) (sym (top-with_unit v id (e ∷ es))) kept.1)
      ∙ ap (map (with_unit v id)) (sym (keep-whole k (e ∷ es) kept.1))
  | inr above ↦
      keep-skip k (with_unit v id e) (map (with_unit v id) es) (subst (λ (n : ℕ). k < n) (sym (top-with_unit v id (e ∷ es))) above.1)
      ∙ keep-with_unit v id k es
      ∙ ap (map (with_unit v id)) (sym (keep-skip k e es above.1))
]

drop-with_unit : (v id n : ℕ) (es : List Entry) → drop n (map (with_unit v id) es) ≡ map (with_unit v id) (drop n es)
drop-with_unit v id zero es = refl
drop-with_unit v id (suc n) [] = refl
drop-with_unit v id (suc n) (e ∷ es) = drop-with_unit v id n es

pub oldest-with_unit : (v id n : ℕ) (es : List Entry) → oldest n (map (with_unit v id) es) ≡ map (with_unit v id) (oldest n es)
oldest-with_unit v id n es =
    ap (λ (m : ℕ). drop (m - n) (map (with_unit v id) es)) (length-with_unit v id es) ∙ drop-with_unit v id (length es - n) es

pub IsTrail-with_unit : (vars v id : ℕ) (es : List Entry) → IsTrail vars es → IsTrail vars (map (with_unit v id) es)
IsTrail-with_unit vars v id [] t = t
IsTrail-with_unit vars v id (e ∷ es) t =
    let lit = sym (with_unit-lit v id e) in (
      subst (λ (l : ℤ). IsUnset (trues (map (with_unit v id) es)) l) lit (subst (λ (ls : List ℤ). IsUnset ls e.lit) (sym (trues-with_unit v id es)) t.0),
      subst (IsLiteral vars) lit t.1,
      IsTrail-with_unit vars v id es t.2,
    )

-- the entries with a unit step are those without it
pub In-with_unit : (v id : ℕ) (x : Entry) (es : List Entry) → In x es → In (with_unit v id x) (map (with_unit v id) es)
In-with_unit v id x es i = In-map (with_unit v id) x es i

pub In-from_with_unit : (v id : ℕ) (y : Entry) (es : List Entry) → In y (map (with_unit v id) es) → (x : Entry) × In x es × (y ≡ with_unit v id x)
In-from_with_unit v id y es i = In-from_map (with_unit v id) y es i
