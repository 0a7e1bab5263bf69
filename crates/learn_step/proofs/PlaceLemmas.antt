-- Places on a trail, and the literals and levels there.
use Rattle.std.proofs.Common.{◌≡◌, ◌⊎◌, ℕ, zero, suc, ◌+◌, ◌-◌, ◌<◌, ◌≤◌, List, [], ◌∷◌, ◌++◌, map, length, take, drop, get_or, refl, sym, ◌∙◌, ap, subst, inl, inr, arith}
use Rattle.std.specs.Prelude.{ℤ, pos, negsuc, neg_ℤ}
use Rattle.std.proofs.Math.IntN.{neg_ℤ-neg_ℤ}
use Rattle.std.proofs.lemmas.Bool.{cases_lt}
use Rattle.std.proofs.lemmas.List.{take-append-drop, take_all}
use Rattle.sat_base.specs.Members.{In}
use Rattle.sat_base.specs.Literals.{var_of}
use Rattle.sat_base.specs.Units.{IsUnset, HasValue}
use Rattle.sat_base.specs.Work.{IsGreatest, HasMore}
use Rattle.sat_base.specs.Database.{StoredClause}
use Rattle.sat_base.proofs.Members.{In-append_left, In-append_right, In-append_cases, In-map, In-from_map}
use Rattle.sat_base.proofs.DatabaseLemmas.{In-take_more, In-take_old, In-take_new}
use Rattle.trail_book.specs.declared.entry.Entry.{Entry}
use Rattle.trail_book.specs.Trail.{trues, top, keep, oldest, IsTrail, IsPlace}
use Rattle.trail_book.proofs.TrailLemmas.{level_after-at_least, keep-over, keep-under, In-trues, lit-keep_in, trail_consistent, same_var}
use Rattle.learn_step.specs.Reasons.{AreReasoned}
use Rattle.learn_step.specs.Places.{newest_lit, literal_at, false_at, level_of, AreBelow, at_hand, IsHighest, IsEntered, IsPlaceOf, HasPlaces}
use Rattle.learn_step.specs.Analysis.{IsFalseAt}

pub oldest_all : (es : List Entry) → oldest (length es) es ≡ es
oldest_all es = let none : length es - length es ≡ 0 = omega arith in ap (λ (n : ℕ). drop n es) none

oldest_split : (n : ℕ) (es : List Entry) → take (length es - n) es ++ oldest n es ≡ es
oldest_split n es = take-append-drop (length es - n) es

drop_in : {X : Type 0} (x : X) (n : ℕ) (xs : List X) → In x (drop n xs) → In x xs
drop_in x zero xs h = h
drop_in x (suc n) [] h = h
drop_in x (suc n) (y ∷ ys) h = inr (drop_in x n ys h)

pub oldest_in : (x : Entry) (n : ℕ) (es : List Entry) → In x (oldest n es) → In x es
oldest_in x n es h = drop_in x (length es - n) es h

pub lit_oldest_in : (l : ℤ) (m n : ℕ) (es : List Entry) → m ≤ n → In l (trues (oldest m es)) → In l (trues (oldest n es))
lit_oldest_in l m n es le h = go (length es - n) (length es - m) es (omega arith) h
  where
    past : (k : ℕ) (xs : List Entry) → In l (trues (drop k xs)) → In l (trues xs)
    past zero xs h = h
    past (suc k) [] h = h
    past (suc k) (y ∷ ys) h = inr (past k ys h)

    go : (i j : ℕ) (xs : List Entry) → i ≤ j → In l (trues (drop j xs)) → In l (trues (drop i xs))
    go zero j xs le h = past j xs h
    go (suc i) zero xs le h = absurd (omega arith)
    go (suc i) (suc j) [] le h = h
    go (suc i) (suc j) (y ∷ ys) le h = go i j ys (omega arith) h

pub lit_oldest_all : (l : ℤ) (n : ℕ) (es : List Entry) → In l (trues (oldest n es)) → In l (trues es)
lit_oldest_all l n es h = elim (cases_lt n (length es)) [
  | inl less ↦ subst (λ (xs : List Entry). In l (trues xs)) (oldest_all es) (lit_oldest_in l n (length es) es (omega arith) h)
  | inr more ↦ (let none : length es - n ≡ 0 = omega arith in subst (λ (k : ℕ). In l (trues (drop k es))) none h)
]

pub trail_oldest : (vars n : ℕ) (es : List Entry) → IsTrail vars es → IsTrail vars (oldest n es)
trail_oldest vars n es t = go (length es - n) es t
  where
    go : (k : ℕ) (xs : List Entry) → IsTrail vars xs → IsTrail vars (drop k xs)
    go zero xs h = h
    go (suc k) [] h = h
    go (suc k) (x ∷ xs) h = go k xs h.2

pub reasoned_oldest : (db : List StoredClause) (n : ℕ) (es : List Entry) → AreReasoned db es → AreReasoned db (oldest n es)
reasoned_oldest db n es r = go (length es - n) es r
  where
    go : (k : ℕ) (xs : List Entry) → AreReasoned db xs → AreReasoned db (drop k xs)
    go zero xs h = h
    go (suc k) [] h = h
    go (suc k) (x ∷ xs) h = go k xs h.2

-- levels rise along the trail
pub top_oldest : (m n : ℕ) (es : List Entry) → m ≤ n → top (oldest m es) ≤ top (oldest n es)
top_oldest m n es le = go (length es - n) (length es - m) es (omega arith)
  where
    past : (k : ℕ) (xs : List Entry) → top (drop k xs) ≤ top xs
    past zero xs = omega arith
    past (suc k) [] = omega arith
    past (suc k) (x ∷ xs) =
        let rest = past k xs in
        let more = level_after-at_least x.reason (top xs) in
        omega (arith, rest, more)

    go : (i j : ℕ) (xs : List Entry) → i ≤ j → top (drop j xs) ≤ top (drop i xs)
    go zero j xs le = past j xs
    go (suc i) zero xs le = absurd (omega arith)
    go (suc i) (suc j) [] le = omega arith
    go (suc i) (suc j) (x ∷ xs) le = go i j xs (omega arith)

pub top_oldest_all : (n : ℕ) (es : List Entry) → top (oldest n es) ≤ top es
top_oldest_all n es = elim (cases_lt n (length es)) [
  | inl less ↦ subst (λ (xs : List Entry). top (oldest n es) ≤ top xs) (oldest_all es) (top_oldest n (length es) es (omega arith))
  | inr more ↦
      (let none : length es - n ≡ 0 = omega arith in
      let same : top (drop (length es - n) es) ≡ top es = ap (λ (k : ℕ). top (drop k es)) none in
      omega (arith, same))
]

-- there is an entry at each place
pub entry_at : (es : List Entry) (p : ℕ) → p < length es → (e : Entry) × (oldest (p + 1) es ≡ e ∷ oldest p es)
entry_at es p lt =
    let (e, is) = go es (length es - (p + 1)) (omega arith) in
    let next : suc (length es - (p + 1)) ≡ length es - p = omega arith in
    (e, is ∙ ap (λ (n : ℕ). e ∷ drop n es) next)
  where
    go : (xs : List Entry) (i : ℕ) → i < length xs → (e : Entry) × (drop i xs ≡ e ∷ drop (suc i) xs)
    go [] i lt = absurd (omega arith)
    go (x ∷ xs) zero lt = (x, refl)
    go (x ∷ xs) (suc i) lt = go xs i (omega arith)

pub literal_of : (es : List Entry) (p : ℕ) (e : Entry) → oldest (p + 1) es ≡ e ∷ oldest p es → literal_at es p ≡ e.lit
literal_of es p e at = ap newest_lit at

pub literal_in : (es : List Entry) (p n : ℕ) → p < length es → p < n → In (literal_at es p) (trues (oldest n es))
literal_in es p n lt below =
    let (e, at) = entry_at es p lt in
    lit_oldest_in (literal_at es p) (p + 1) n es (omega arith) (subst (λ (xs : List Entry). In (literal_at es p) (trues xs)) (sym at) (inl (literal_of es p e at)))

pub literal_true : (es : List Entry) (p : ℕ) → p < length es → In (literal_at es p) (trues es)
literal_true es p lt = subst (λ (xs : List Entry). In (literal_at es p) (trues xs)) (oldest_all es) (literal_in es p (length es) lt lt)

pub false_is_false : (es : List Entry) (p : ℕ) → p < length es → In (neg_ℤ (false_at es p)) (trues es)
false_is_false es p lt = subst (λ (l : ℤ). In l (trues es)) (sym (neg_ℤ-neg_ℤ (literal_at es p))) (literal_true es p lt)

-- no earlier value is the literal or its negation
pub unset_at : (vars : ℕ) (es : List Entry) (p : ℕ) → IsTrail vars es → p < length es → IsUnset (trues (oldest p es)) (literal_at es p)
unset_at vars es p t lt =
    let (e, at) = entry_at es p lt in
    let here : IsTrail vars (e ∷ oldest p es) = subst (IsTrail vars) at (trail_oldest vars (p + 1) es t) in
    subst (IsUnset (trues (oldest p es))) (sym (literal_of es p e at)) here.0

-- a value that stands among the oldest has a place below their count
pub place_lower : (vars : ℕ) (es : List Entry) (p n : ℕ) → IsTrail vars es → p < length es → In (literal_at es p) (trues (oldest n es)) → p < n
place_lower vars es p n t lt h = elim (cases_lt p n) [
  | inl less ↦ less
  | inr more ↦ absurd ((unset_at vars es p t lt).not_true (lit_oldest_in (literal_at es p) n p es more h))
]

-- the literal is true up to its level, and not up to a lower one
pub literal_kept : (es : List Entry) (p k : ℕ) → p < length es → level_of es p ≤ k → In (literal_at es p) (trues (keep k es))
literal_kept es p k lt le =
    let (e, at) = entry_at es p lt in
    let here : In e (oldest (p + 1) es) = subst (In e) (sym at) (inl refl) in
    let kept : In e (keep k es) = subst (λ (xs : List Entry). In e (keep k xs)) (oldest_split (p + 1) es) (keep-under k (take (length es - (p + 1)) es) (oldest (p + 1) es) e le here) in
    subst (λ (l : ℤ). In l (trues (keep k es))) (sym (literal_of es p e at)) (In-trues e (keep k es) kept)

pub literal_open : (vars : ℕ) (es : List Entry) (p k : ℕ) → IsTrail vars es → p < length es → k < level_of es p → ¬ In (literal_at es p) (trues (keep k es))
literal_open vars es p k t lt below h =
    let (e, at) = entry_at es p lt in
    let whole : take (length es - (p + 1)) es ++ e ∷ oldest p es ≡ es = ap (λ (xs : List Entry). take (length es - (p + 1)) es ++ xs) (sym at) ∙ oldest_split (p + 1) es in
    let level : k < top (e ∷ oldest p es) = subst (λ (xs : List Entry). k < top xs) at below in
    let less : keep k es ≡ keep k (oldest p es) = ap (keep k) (sym whole) ∙ keep-over k (take (length es - (p + 1)) es) e (oldest p es) level in
    (unset_at vars es p t lt).not_true (lit-keep_in k (oldest p es) (literal_at es p) (subst (λ (xs : List Entry). In (literal_at es p) (trues xs)) less h))

pub false_kept : (es : List Entry) (p k : ℕ) → p < length es → level_of es p ≤ k → In (neg_ℤ (false_at es p)) (trues (keep k es))
false_kept es p k lt le = subst (λ (l : ℤ). In l (trues (keep k es))) (sym (neg_ℤ-neg_ℤ (literal_at es p))) (literal_kept es p k lt le)

pub false_open : (vars : ℕ) (es : List Entry) (p k : ℕ) → IsTrail vars es → p < length es → k < level_of es p → ¬ In (neg_ℤ (false_at es p)) (trues (keep k es))
false_open vars es p k t lt below h =
    literal_open vars es p k t lt below (subst (λ (l : ℤ). In l (trues (keep k es))) (neg_ℤ-neg_ℤ (literal_at es p)) h)

-- the entry at a place that the trail gives
pub place_in : (es : List Entry) (var p : ℕ) (q : IsPlace es var p) → In q.entry.lit (trues es)
place_in es var p q = subst (λ (l : ℤ). In l (trues es)) (literal_of es p q.entry q.at) (literal_true es p q.within)

-- the place of a literal that is false
pub place_false : (vars : ℕ) (es : List Entry) (m : ℤ) (p : ℕ) → IsTrail vars es → IsPlace es (var_of m) p → In (neg_ℤ m) (trues es) → false_at es p ≡ m
place_false vars es m p t q h = elim (same_var q.entry.lit m q.of_var) [
  | inl same ↦ absurd (trail_consistent vars es t m (subst (λ (l : ℤ). In l (trues es)) same (place_in es (var_of m) p q)) h)
  | inr turned ↦ ap neg_ℤ (literal_of es p q.entry q.at ∙ turned) ∙ neg_ℤ-neg_ℤ m
]

-- the place of a literal whose negation is assumed
pub place_negated : (vars : ℕ) (es : List Entry) (m : ℤ) (p : ℕ) (q : IsPlace es (var_of m) p) → IsTrail vars es → In (neg_ℤ m) (trues es) → q.entry.lit ≡ neg_ℤ m
place_negated vars es m p q t h = elim (same_var q.entry.lit m q.of_var) [
  | inl same ↦ absurd (trail_consistent vars es t m (subst (λ (l : ℤ). In l (trues es)) same (place_in es (var_of m) p q)) h)
  | inr turned ↦ turned
]

-- a variable has a value where its literal has
pub var_value : (trues : List ℤ) (m : ℤ) → HasValue trues m → HasValue trues (pos (var_of m))
var_value trues (pos v) h = h
var_value trues (negsuc v) (inl h) = inr h
var_value trues (negsuc v) (inr h) = inl h

pub highest_at : (es : List Entry) (places : List ℕ) (p : ℕ) → IsGreatest places p → AreBelow places (length es) → IsHighest es places (level_of es p)
highest_at es places p g below = record {
  above = λ q i. let le = g.above q i in top_oldest (q + 1) (p + 1) es (omega (arith, le));
  reached = λ up. (p, g.has, refl);
}

-- The literals at hand.
pub hand_place : (es : List Entry) (places : List ℕ) (lits : List ℤ) (p : ℕ) → In p places → In (false_at es p) (at_hand es places lits)
hand_place es places lits p i = In-append_left (false_at es p) (map (false_at es) places) lits (In-map (false_at es) p places i)

pub hand_lit : (es : List Entry) (places : List ℕ) (lits : List ℤ) (l : ℤ) → In l lits → In l (at_hand es places lits)
hand_lit es places lits l i = In-append_right l (map (false_at es) places) lits i

pub hand_cases : (es : List Entry) (places : List ℕ) (lits : List ℤ) (l : ℤ) → In l (at_hand es places lits) → IsFalseAt es places l ⊎ In l lits
hand_cases es places lits l i = elim (In-append_cases l (map (false_at es) places) lits i) [
  | inl h ↦ inl (In-from_map (false_at es) l places h)
  | inr h ↦ inr h
]

-- Literals that are entered one after the other.
pub places_none : (es : List Entry) (below : ℕ) (places : List ℕ) → HasPlaces es [] below places places
places_none es below places = record { kept = λ p i. i; each = λ l i. absurd i; only = λ p i. inl i }

pub places_more : (es : List Entry) (lits : List ℤ) (below n place : ℕ) (old mid new : List ℕ) (l : ℤ) → n < length lits → l ≡ get_or lits n l → IsPlace es (var_of l) place
    → ((place < below) × HasMore mid new place) ⊎ ((below ≤ place) × (mid ≡ new)) → HasPlaces es (take n lits) below old mid → HasPlaces es (take (n + 1) lits) below old new
places_more es lits below n place old mid new l lt item is choice h = record {
  kept = λ p i. grows p (h.kept p i);
  each = λ m i. elim (In-take_more lits n l m lt i) [
    | inl before ↦ (let e = h.each m before in record { place = e.place; is = e.is; entered = λ b. grows e.place (e.entered b) })
    | inr same ↦ subst (IsEntered es below new) (item ∙ sym same) (record { place = place; is = is; entered = entered })
  ];
  only = λ p i. elim (from p i) [
    | inl there ↦ older p there
    | inr fresh ↦ inr (record {
      lit = l;
      has = subst (λ (m : ℤ). In m (take (n + 1) lits)) (sym item) (In-take_new lits n l lt);
      is = subst (IsPlace es (var_of l)) (sym fresh.0) is;
      lower = (let e = fresh.0 in let b = fresh.1 in omega (arith, e, b));
    })
  ];
}
  where
    grows : (p : ℕ) → In p mid → In p new
    grows p i = elim choice [ inl c ↦ (c.1 p).1 (inr i) | inr c ↦ subst (In p) c.1 i ]

    entered : place < below → In place new
    entered b = elim choice [ inl c ↦ (c.1 place).1 (inl refl) | inr c ↦ absurd (let le = c.0 in omega (arith, le, b)) ]

    from : (p : ℕ) → In p new → In p mid ⊎ ((p ≡ place) × (place < below))
    from p i = elim choice [
      | inl c ↦ elim ((c.1 p).0 i) [ inl same ↦ inr (same, c.0) | inr there ↦ inl there ]
      | inr c ↦ inl (subst (In p) (sym c.1) i)
    ]

    older : (p : ℕ) → In p mid → In p old ⊎ IsPlaceOf es (take (n + 1) lits) below p
    older p i = elim (h.only p i) [
      | inl o ↦ inl o
      | inr q ↦ inr (record { lit = q.lit; has = In-take_old lits n l q.lit lt q.has; is = q.is; lower = q.lower })
    ]

pub places_all : (es : List Entry) (lits : List ℤ) (below n : ℕ) (old new : List ℕ) → length lits ≤ n → HasPlaces es (take n lits) below old new → HasPlaces es lits below old new
places_all es lits below n old new le h = subst (λ (ls : List ℤ). HasPlaces es ls below old new) (take_all n lits le) h
