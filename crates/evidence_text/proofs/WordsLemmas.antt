-- Words that can be read are just those that write what is read.
use Rattle.std.proofs.Common.{◌≡◌, ◌⊎◌, ℕ, zero, suc, ◌+◌, ◌-◌, ◌^◌, ◌<◌, ◌≤◌, Bool, true, false, cond, eqb, List, [], ◌∷◌, ◌++◌, map, length, Option, Some, None, refl, sym, ◌∙◌, ap, ap₂, subst, inl, inr, arith}
use Rattle.std.specs.Prelude.{ℤ, pos, neg_ℤ, codes, replicate, slice_set, Result, Ok, Err}
use Rattle.std.specs.Option.{option_map, option_map_or}
use Rattle.std.specs.List.{fold, AllByRecursion}
use Rattle.std.specs.Fmt.{decimal, signed_decimal}
use Rattle.std.specs.Str.{bytes_eq}
use Rattle.std.proofs.lemmas.Bool.{cases_eq, eqb-true}
use Rattle.std.proofs.lemmas.List.{length-set, length-replicate}
use Rattle.std.proofs.lemmas.Slice.Eq.{bytes_eq-Decides}
use Rattle.sat_base.specs.Literals.{IsLiteral}
use Rattle.sat_base.specs.Derivation.{Step, max_id}
use Rattle.gm_base.specs.Sets.{AscendsAbove}
use Rattle.lrat_check.specs.declared.why.Why.TheVariants.{BadLine, BadNumber}
use Rattle.evidence_text.specs.declared.goal.Goal.{Goal}
use Rattle.evidence_text.specs.declared.goal.Goal.TheVariants.{Refutes, Exhausts}
use Rattle.evidence_text.specs.Text.{Word, step_line, witness_line, trues_from}
use Rattle.evidence_text.specs.Reading.{◌>>=◌, number_in, literal_in, word_at, number_at, items_at, ascending_at, line_end, set_at, step_at, values_of, witness_at, goal_at, last_word_at}
use Rattle.evidence_text.specs.Readable.{IsId, IsReadableStep, IsSetUpTo}
use Rattle.evidence_text.proofs.NumberLemmas.{decimal-number, number_in-parts_of}

-- ---- what goes on went on from something

pub bind-ok : {A B E : Type 0} (r : Result A E) (f : A → Result B E) (y : B) → (r >>= f) ≡ Ok y
    → (x : A) × (r ≡ Ok x) × (f x ≡ Ok y)
bind-ok (Ok x) f y h = (x, refl, h)
bind-ok (Err e) f y h = cc

option-ok : {A B E : Type 0} (o : Option A) (f : A → Result B E) (e : E) (y : B) → option_map_or f o (Err e) ≡ Ok y
    → (x : A) × (o ≡ Some x) × (f x ≡ Ok y)
option-ok (Some x) f e y h = (x, refl, h)
option-ok None f e y h = cc

map-some : {A B : Type 0} (o : Option A) (f : A → B) (y : B) → option_map f o ≡ Some y → (x : A) × (o ≡ Some x) × (f x ≡ y)
map-some (Some x) f y h = let same : f x ≡ y = cc in (x, refl, same)
map-some None f y h = cc

pub cond-cases : {X : Type 0} (t : Bool) (a b y : X) → cond t a b ≡ y → ((t ≡ true) × (a ≡ y)) ⊎ ((t ≡ false) × (b ≡ y))
cond-cases true a b y h = inl (refl, h)
cond-cases false a b y h = inr (refl, h)

pub ok-is : {A E : Type 0} (x y : A) (r : Result A E) → r ≡ Ok x → r ≡ Ok y → x ≡ y
ok-is x y r p q = cc

pub pair-is : {A B E : Type 0} (a c : A) (b d : B) (r : Result (A × B) E) → r ≡ Ok (a, b) → r ≡ Ok (c, d) → (a ≡ c) × (b ≡ d)
pair-is {A} {B} a c b d r p q =
    let same = ok-is (a, b) (c, d) r p q in (ap (λ (x : A × B). x.0) same, ap (λ (x : A × B). x.1) same)

pub all-then : {X : Type 0} (P Q : X → Type 0) (xs : List X) → ((x : X) → P x → Q x) → AllByRecursion P xs → AllByRecursion Q xs
all-then P Q [] then all = tt
all-then P Q (x ∷ xs) then all = (then x all.0, all-then P Q xs then all.1)

-- ---- numbers

number_in-ok : (low high : ℕ) (w : Word) (n : ℕ) → high < 2 ^ 64 → number_in low high w ≡ Some n
    → (w ≡ decimal n) × (low ≤ n) × (n ≤ high)
number_in-ok low high w n small h =
    let parts = number_in-parts_of low high w n h in
    (sym (decimal-number w parts.number (omega (arith, parts.value, parts.le_high))) ∙ ap decimal parts.value, parts.low_le, parts.le_high)

pub number-ok : (low high : ℕ) (ws : List Word) (n : ℕ) (rest : List Word) → high < 2 ^ 64 → number_at low high ws ≡ Ok (n, rest)
    → (ws ≡ decimal n ∷ rest) × (low ≤ n) × (n ≤ high)
number-ok low high [] n rest small h = cc
number-ok low high (w ∷ ws) n rest small h =
    let (m, is, same) = option-ok (number_in low high w) (λ (k : ℕ). Ok (k, ws)) BadNumber (n, rest) h in
    let (m_is, rest_is) = pair-is m n ws rest (Ok (m, ws)) refl same in
    let (word, lo, hi) = number_in-ok low high w m small is in (
      ap₂ (λ (v : Word) (vs : List Word). v ∷ vs) (word ∙ ap decimal m_is) rest_is,
      subst (λ k. low ≤ k) m_is lo,
      subst (λ k. k ≤ high) m_is hi,
    )

negated : (vars v : ℕ) → 1 ≤ v → v ≤ vars → (45 ∷ decimal v ≡ signed_decimal (neg_ℤ (pos v))) × IsLiteral vars (neg_ℤ (pos v))
negated vars zero low high = absurd (omega arith)
negated vars (suc k) low high = (refl, record { not_zero = omega arith; in_range = high })

literal-ok : (vars : ℕ) (w : Word) (x : ℤ) → vars < 2 ^ 64 → literal_in vars w ≡ Some x → (w ≡ signed_decimal x) × IsLiteral vars x
literal-ok vars [] x small h = cc
literal-ok vars (b ∷ bs) x small h =
    elim (cond-cases (eqb b 45) (option_map (λ v. neg_ℤ (pos v)) (number_in 1 vars bs)) (option_map (λ v. pos v) (number_in 1 vars (b ∷ bs))) (Some x) h) [
      | inl minus ↦
          let (v, is, same) = map-some (number_in 1 vars bs) (λ v. neg_ℤ (pos v)) x minus.1 in
          let (word, lo, hi) = number_in-ok 1 vars bs v small is in
          let (written, over) = negated vars v lo hi in
          (ap₂ (λ (c : ℕ) (cs : Word). c ∷ cs) (eqb-true b 45 minus.0) word ∙ written ∙ ap signed_decimal same, subst (IsLiteral vars) same over)
      | inr plain ↦
          let (v, is, same) = map-some (number_in 1 vars (b ∷ bs)) (λ v. pos v) x plain.1 in
          let (word, lo, hi) = number_in-ok 1 vars (b ∷ bs) v small is in
          let over : IsLiteral vars (pos v) = record { not_zero = omega arith; in_range = hi } in
          (word ∙ ap signed_decimal same, subst (IsLiteral vars) same over)
    ]

-- ---- lists that end in 0

items-ok : {X : Type 0} (item : Word → Option X) (write : X → Word) (P : X → Type 0)
    → ((w : Word) (x : X) → item w ≡ Some x → (w ≡ write x) × P x) → (ws : List Word) (xs : List X) (rest : List Word)
    → items_at item ws ≡ Ok (xs, rest) → (ws ≡ map write xs ++ codes "0" ∷ rest) × AllByRecursion P xs
items-ok item write P reads [] xs rest h = cc
items-ok {X} item write P reads (w ∷ ws) xs rest h =
    elim (cond-cases (bytes_eq w (codes "0")) _ _ (Ok (xs, rest)) h) [
      | inl end ↦
          let (e, f) = pair-is [] xs ws rest (Ok ([], ws)) refl end.1 in (
            ap (λ (v : Word). v ∷ ws) ((bytes_eq-Decides w (codes "0")).0 end.0)
                ∙ ap₂ (λ (ys : List X) (q : List Word). map write ys ++ codes "0" ∷ q) e f,
            subst (AllByRecursion P) e tt,
          )
      | inr more ↦
          let (x, is, goes) = option-ok (item w) (λ (x : X). items_at item ws >>= λ r. Ok (x ∷ r.0, r.1)) BadNumber (xs, rest) more.1 in
          let (r, tail, same) = bind-ok (items_at item ws) (λ r. Ok (x ∷ r.0, r.1)) (xs, rest) goes in
          let (e, f) = pair-is (x ∷ r.0) xs r.1 rest (Ok (x ∷ r.0, r.1)) refl same in
          let (inner, all) = items-ok item write P reads ws r.0 r.1 tail in
          let (word, good) = reads w x is in (
            ap₂ (λ (v : Word) (vs : List Word). v ∷ vs) word inner
                ∙ ap₂ (λ (ys : List X) (q : List Word). map write ys ++ codes "0" ∷ q) e f,
            subst (AllByRecursion P) e (good, all),
          )
    ]

ascending-ok : (low high : ℕ) (ws : List Word) (xs : List ℕ) (rest : List Word) → high < 2 ^ 64 → ascending_at low high ws ≡ Ok (xs, rest)
    → (ws ≡ map decimal xs ++ codes "0" ∷ rest) × AscendsAbove low xs × AllByRecursion (λ g. g ≤ high) xs
ascending-ok low high [] xs rest small h = cc
ascending-ok low high (w ∷ ws) xs rest small h =
    elim (cond-cases (bytes_eq w (codes "0")) _ _ (Ok (xs, rest)) h) [
      | inl end ↦
          let (e, f) = pair-is [] xs ws rest (Ok ([], ws)) refl end.1 in (
            ap (λ (v : Word). v ∷ ws) ((bytes_eq-Decides w (codes "0")).0 end.0)
                ∙ ap₂ (λ (ys : List ℕ) (q : List Word). map decimal ys ++ codes "0" ∷ q) e f,
            subst (AscendsAbove low) e tt,
            subst (AllByRecursion (λ g. g ≤ high)) e tt,
          )
      | inr more ↦
          let (n, is, goes) = option-ok (number_in (low + 1) high w) (λ (n : ℕ). ascending_at n high ws >>= λ r. Ok (n ∷ r.0, r.1)) BadNumber (xs, rest) more.1 in
          let (r, tail, same) = bind-ok (ascending_at n high ws) (λ r. Ok (n ∷ r.0, r.1)) (xs, rest) goes in
          let (e, f) = pair-is (n ∷ r.0) xs r.1 rest (Ok (n ∷ r.0, r.1)) refl same in
          let (inner, up, all) = ascending-ok n high ws r.0 r.1 small tail in
          let (word, lo, hi) = number_in-ok (low + 1) high w n small is in
          let above : low < n = omega arith in (
            ap₂ (λ (v : Word) (vs : List Word). v ∷ vs) word inner
                ∙ ap₂ (λ (ys : List ℕ) (q : List Word). map decimal ys ++ codes "0" ∷ q) e f,
            subst (AscendsAbove low) e (above, up),
            subst (AllByRecursion (λ g. g ≤ high)) e (hi, all),
          )
    ]

pub line_end-ok : {X : Type 0} (x y : X) (ws : List Word) → line_end x ws ≡ Ok y → (ws ≡ []) × (x ≡ y)
line_end-ok x y [] h = let same : x ≡ y = cc in (refl, same)
line_end-ok x y (w ∷ ws) h = cc

pub word-ok : (due : Word) (ws rest : List Word) → word_at due ws ≡ Ok rest → ws ≡ due ∷ rest
word-ok due [] rest h = cc
word-ok due (w ∷ ws) rest h =
    elim (cond-cases (bytes_eq w due) (Ok ws) (Err BadLine) (Ok rest) h) [
      | inl is ↦ let same : ws ≡ rest = ok-is ws rest (Ok ws) refl is.1 in ap₂ (λ (v : Word) (vs : List Word). v ∷ vs) ((bytes_eq-Decides w due).0 is.0) same
      | inr other ↦ cc (other.1)
    ]

-- ---- whole lines, behind their letter

pub set-ok : (groups : ℕ) (ws : List Word) (set : List ℕ) → groups < 2 ^ 64 → set_at groups ws ≡ Ok set
    → (ws ≡ map decimal set ++ codes "0" ∷ []) × IsSetUpTo groups set
unfolding set_at
set-ok groups ws set small h =
    let (r, read, ends) = bind-ok (ascending_at 0 groups ws) (λ r. line_end r.0 r.1) set h in
    let (over, same) = line_end-ok r.0 set r.1 ends in
    let (is, up, all) = ascending-ok 0 groups ws r.0 r.1 small read in (
      is ∙ ap₂ (λ (ys : List ℕ) (q : List Word). map decimal ys ++ codes "0" ∷ q) same over,
      subst (IsSetUpTo groups) same (record { ascends = up; in_range = all }),
    )

pub step-ok : (vars : ℕ) (ws : List Word) (s : Step) → vars < 2 ^ 64 → step_at vars ws ≡ Ok s
    → (codes "d" ∷ ws ≡ step_line s) × IsReadableStep vars s
unfolding step_at
step-ok vars ws s small h =
    let (id, a, h1) = bind-ok (number_at 1 max_id ws) _ s h in
    let (lits, b, h2) = bind-ok (items_at (literal_in vars) id.1) _ s h1 in
    let (hints, c, h3) = bind-ok (items_at (number_in 1 max_id) lits.1) _ s h2 in
    let made : Step = record { id = id.0; lits = lits.0; hints = hints.0 } in
    let (over, same) = line_end-ok made s hints.1 h3 in
    let (first, lo, hi) = number-ok 1 max_id ws id.0 id.1 (omega arith) a in
    let (second, are) = items-ok (literal_in vars) signed_decimal (IsLiteral vars) (λ w x. literal-ok vars w x small) id.1 lits.0 lits.1 b in
    let (third, ids) = items-ok (number_in 1 max_id) decimal IsId hint lits.1 hints.0 hints.1 c in (
      ap (λ (q : List Word). codes "d" ∷ q)
          (first ∙ ap (λ (q : List Word). decimal id.0 ∷ q) (second ∙ ap (λ (q : List Word). map signed_decimal lits.0 ++ codes "0" ∷ q) (third ∙ ap (λ (q : List Word). map decimal hints.0 ++ codes "0" ∷ q) over)))
          ∙ ap step_line same,
      subst (IsReadableStep vars) same (record { id = record { from_one = lo; in_range = hi }; lits = are; hints = ids }),
    )
  where
    hint : (w : Word) (x : ℕ) → number_in 1 max_id w ≡ Some x → (w ≡ decimal x) × IsId x
    hint w x is = let (word, lo, hi) = number_in-ok 1 max_id w x (omega arith) is in (word, record { from_one = lo; in_range = hi })

-- the line of a goal, and its number
abbrev pub goal_words : Goal → ℕ → List Word
goal_words (Refutes g) id = decimal g ∷ decimal id ∷ []
goal_words Exhausts id = decimal id ∷ []

abbrev pub IsSmallGoal : Goal → Type 0
IsSmallGoal (Refutes g) = g < 2 ^ 64
IsSmallGoal Exhausts = Unit {0}

-- ---- witnesses

abbrev pub set-at : ℕ → List Bool → ℕ → List Bool
set-at v values t = slice_set values (t - (v + 1)) true

pub fold-behind : (v : ℕ) (b : Bool) (bs : List Bool) (ts : List ℕ) → AllByRecursion (λ t. v + 1 < t) ts
    → fold (set-at v) (b ∷ bs) ts ≡ b ∷ fold (set-at (v + 1)) bs ts
fold-behind v b bs [] above = refl
fold-behind v b bs (t ∷ ts) above =
    let high = above.0 in
    let place : t - (v + 1) ≡ suc (t - (v + 1 + 1)) = omega arith in
    ap (λ (i : ℕ). fold (set-at v) (slice_set (b ∷ bs) i true) ts) place
    ∙ fold-behind v b (slice_set bs (t - (v + 1 + 1)) true) ts above.1

pub above-all : (v : ℕ) (ts : List ℕ) → AscendsAbove v ts → AllByRecursion (λ t. v < t) ts
above-all v [] up = tt
above-all v (t ∷ ts) up =
    (up.0, all-then (λ s. t < s) (λ s. v < s) ts (λ s lt. let first = up.0 in omega arith) (above-all t ts up.1))

none-true : (v n : ℕ) → trues_from v (replicate n false) ≡ []
none-true v zero = refl
none-true v (suc n) = none-true (v + 1) n

trues-ok : (n v : ℕ) (ts : List ℕ) → AscendsAbove v ts → AllByRecursion (λ t. t ≤ v + n) ts
    → trues_from (v + 1) (fold (set-at v) (replicate n false) ts) ≡ ts
trues-ok n v [] up all = none-true (v + 1) n
trues-ok zero v (t ∷ ts) up all = absurd (let low = up.0 in let high = all.0 in omega arith)
trues-ok (suc n) v (t ∷ ts) up all =
    elim (cases_eq t (v + 1)) [
      | inl same ↦
          let place : t - (v + 1) ≡ 0 = omega arith in
          let above : AllByRecursion (λ s. v + 1 < s) ts = subst (λ k. AllByRecursion (λ s. k < s) ts) same (above-all t ts up.1) in
          ap (λ (i : ℕ). trues_from (v + 1) (fold (set-at v) (slice_set (false ∷ replicate n false) i true) ts)) place
          ∙ ap (trues_from (v + 1)) (fold-behind v true (replicate n false) ts above)
          ∙ ap₂ (λ (k : ℕ) (ks : List ℕ). k ∷ ks) (sym same)
          (trues-ok n (v + 1) ts (subst (λ k. AscendsAbove k ts) same up.1) (all-then (λ s. s ≤ v + suc n) (λ s. s ≤ v + 1 + n) ts (λ s le. omega arith) all.1))
      | inr other ↦
          let low = up.0 in
          let first : v + 1 < t = omega (arith, other) in
          let rest : AllByRecursion (λ s. v + 1 < s) ts = all-then (λ s. t < s) (λ s. v + 1 < s) ts (λ s lt. omega arith) (above-all t ts up.1) in
          ap (trues_from (v + 1)) (fold-behind v false (replicate n false) (t ∷ ts) (first, rest))
          ∙ trues-ok n (v + 1) (t ∷ ts) (first, up.1) (all-then (λ s. s ≤ v + suc n) (λ s. s ≤ v + 1 + n) (t ∷ ts) (λ s le. omega arith) all)
    ]

length-fold : (v : ℕ) (values : List Bool) (ts : List ℕ) → length (fold (set-at v) values ts) ≡ length values
length-fold v values [] = refl
length-fold v values (t ∷ ts) = length-fold v (slice_set values (t - (v + 1)) true) ts ∙ length-set values (t - (v + 1)) true

pub witness-ok : (vars g : ℕ) (ws : List Word) (w : List Bool) → vars < 2 ^ 64 → g < 2 ^ 64 → witness_at vars g ws ≡ Ok w
    → (codes "w" ∷ ws ≡ witness_line g w) × (length w ≡ vars)
unfolding witness_at
witness-ok vars g ws w small few h =
    let (group, a, h1) = bind-ok (number_at g g ws) _ w h in
    let (trues, b, h2) = bind-ok (ascending_at 0 vars group.1) _ w h1 in
    let (over, same) = line_end-ok (values_of vars trues.0) w trues.1 h2 in
    let (first, lo, hi) = number-ok g g ws group.0 group.1 few a in
    let (second, up, all) = ascending-ok 0 vars group.1 trues.0 trues.1 small b in
    let is : group.0 ≡ g = omega arith in
    let read : trues_from 1 (values_of vars trues.0) ≡ trues.0 = trues-ok vars 0 trues.0 up (all-then (λ t. t ≤ vars) (λ t. t ≤ 0 + vars) trues.0 (λ t le. omega arith) all) in (
      ap (λ (q : List Word). codes "w" ∷ q)
          (first ∙ ap₂ (λ (n : ℕ) (q : List Word). decimal n ∷ q) is
          (second ∙ ap₂ (λ (ts : List ℕ) (q : List Word). map decimal ts ++ codes "0" ∷ q) (sym read) over))
          ∙ ap (witness_line g) same,
      ap length (sym same) ∙ length-fold 0 (replicate vars false) trues.0 ∙ length-replicate vars false,
    )

pub goal-ok : (goal : Goal) (ws : List Word) (id : ℕ) → IsSmallGoal goal → goal_at goal ws ≡ Ok id
    → (ws ≡ goal_words goal id) × IsId id
unfolding goal_at
goal-ok (Refutes g) ws id small h =
    let (group, a, h1) = bind-ok (number_at g g ws) _ id h in
    let (goal, b, h2) = bind-ok (number_at 1 max_id group.1) _ id h1 in
    let (over, same) = line_end-ok goal.0 id goal.1 h2 in
    let (first, lo, hi) = number-ok g g ws group.0 group.1 small a in
    let (second, low, high) = number-ok 1 max_id group.1 goal.0 goal.1 (omega arith) b in
    let is : group.0 ≡ g = omega arith in (
      first ∙ ap₂ (λ (n : ℕ) (q : List Word). decimal n ∷ q) is (second ∙ ap₂ (λ (n : ℕ) (q : List Word). decimal n ∷ q) same over),
      subst IsId same (record { from_one = low; in_range = high }),
    )
goal-ok Exhausts ws id small h =
    let (goal, b, h2) = bind-ok (number_at 1 max_id ws) _ id h in
    let (over, same) = line_end-ok goal.0 id goal.1 h2 in
    let (second, low, high) = number-ok 1 max_id ws goal.0 goal.1 (omega arith) b in (
      second ∙ ap₂ (λ (n : ℕ) (q : List Word). decimal n ∷ q) same over,
      subst IsId same (record { from_one = low; in_range = high }),
    )

pub last_word-ok : (due : Word) (ws : List Word) (u : Unit {0}) → last_word_at due ws ≡ Ok u → ws ≡ due ∷ []
unfolding last_word_at
last_word-ok due ws u h =
    let (rest, a, h1) = bind-ok (word_at due ws) _ u h in
    word-ok due ws rest a ∙ ap (λ (q : List Word). due ∷ q) (line_end-ok tt u rest h1).0
