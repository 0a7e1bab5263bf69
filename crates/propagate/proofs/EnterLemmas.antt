-- How far the trail goes back to have a clause be watched.
use Rattle.std.proofs.Common.{◌≡◌, ◌≢◌, ◌⊎◌, ℕ, ◌+◌, ◌<◌, ◌≤◌, List, [], ◌∷◌, length, take, get_or, Option, Some, None, refl, sym, ◌∙◌, ap, subst, inl, inr, arith}
use Rattle.std.specs.Prelude.{ℤ, pos, negsuc, neg_ℤ, IfSome, IfNone}
use Rattle.std.proofs.lemmas.Bool.{cases_lt}
use Rattle.std.proofs.lemmas.Bool.Decides.{leb_tells}
use Rattle.std.proofs.lemmas.List.{take_all}
use Rattle.sat_base.specs.Members.{In}
use Rattle.sat_base.specs.Literals.{var_of}
use Rattle.sat_base.specs.Database.{StoredClause}
use Rattle.sat_base.specs.Units.{HasValue, AllFalse, AllFalseBut, HasTwo, IsLoose, IsReason, IsConsequence}
use Rattle.sat_base.proofs.DatabaseLemmas.{In-take_more}
use Rattle.trail_book.specs.declared.entry.Entry.{Entry}
use Rattle.trail_book.specs.Trail.{trues, top, keep, oldest, IsTrail, IsPlace}
use Rattle.trail_book.proofs.TrailLemmas.{keep-whole, keep-skip, top-keep_exact, lit-keep_in, lit-keep_more, level_after-at_least, same_var, trail_consistent}
use Rattle.trail_book.proofs.PlaceLemmas.{oldest_skip, oldest_whole, place_unskip}
use Rattle.propagate.specs.Propagation.{Grows}
use Rattle.propagate.specs.Watches.{IsGuarded}
use Rattle.propagate.specs.Entrance.{IsLooseBelow, StaysWhereOpen, IsLast, IsForcedAt}
use Rattle.propagate.proofs.GrowsLemmas.{grows-refl, grows-from, top_grows}
use Rattle.propagate.proofs.LevelLemmas.{oldest_in, keep_lower}

-- ---- the level of a literal

pub has_value : (ts : List ℤ) (l : ℤ) → In l ts → HasValue ts (pos (var_of l))
has_value ts (pos v) i = inl i
has_value ts (negsuc v) i = inr i

-- the entry at the place of a variable is the literal of it that is true
pub place_literal : (vars : ℕ) (es : List Entry) (l : ℤ) (p : ℕ) (q : IsPlace es (var_of l) p) → IsTrail vars es → In l (trues es) → q.entry.lit ≡ l
place_literal vars es l p q t i =
    let there : In q.entry.lit (trues es) = oldest_in q.entry.lit (p + 1) es (subst (λ (xs : List Entry). In q.entry.lit (trues xs)) (sym q.at) (inl refl)) in
    elim (same_var q.entry.lit l q.of_var) [
      | inl same ↦ same
      | inr turned ↦ absurd (trail_consistent vars es t l i (subst (λ (m : ℤ). In m (trues es)) turned there))
    ]

top_oldest : (n : ℕ) (es : List Entry) → n ≤ length es → top (oldest n es) ≤ top es
top_oldest n [] h = let same = ap top (oldest_whole [] n (omega (arith, h))) in omega (arith, same)
top_oldest n (e ∷ es) h = elim (cases_lt n (length (e ∷ es))) [
  | inl less ↦
      let rest = top_oldest n es (omega (arith, less)) in
      let same = ap top (oldest_skip e es n (omega (arith, less))) in
      let more = level_after-at_least e.reason (top es) in
      omega (arith, rest, same, more)
  | inr all ↦ let same = ap top (oldest_whole (e ∷ es) n (omega (arith, all, h))) in omega (arith, same)
]

pub level_within : (es : List Entry) (p : ℕ) → p < length es → top (oldest (p + 1) es) ≤ top es
level_within es p h = top_oldest (p + 1) es (omega (arith, h))

-- a value is there up to each level from its own on
pub level_there : (es : List Entry) (p : ℕ) (x : Entry) → p < length es → oldest (p + 1) es ≡ x ∷ oldest p es → (k : ℕ) → top (oldest (p + 1) es) ≤ k → In x.lit (trues (keep k es))
level_there [] p x h at k low = absurd (omega (arith, h))
level_there (e ∷ es) p x h at k low = elim (cases_lt p (length es)) [
  | inl less ↦
      let same = ap top (oldest_skip e es (p + 1) (omega (arith, less))) in
      let rest = level_there es p x less (place_unskip e es x p less at) k (omega (arith, same, low)) in
      elim (leb_tells (top (e ∷ es)) k) [
        | inl whole ↦ subst (λ (xs : List Entry). In x.lit (trues xs)) (sym (keep-whole k (e ∷ es) whole.1)) (inr (lit-keep_in k es x.lit rest))
        | inr above ↦ subst (λ (xs : List Entry). In x.lit (trues xs)) (sym (keep-skip k e es above.1)) rest
      ]
  | inr last ↦
      let all = oldest_whole (e ∷ es) (p + 1) (omega (arith, last, h)) in
      let tops = ap top all in
      let whole = keep-whole k (e ∷ es) (omega (arith, tops, low)) in
      subst (λ (xs : List Entry). In x.lit (trues xs)) (sym at ∙ all ∙ sym whole) (inl refl)
]

-- and up to no lower one
pub level_first : (vars : ℕ) (es : List Entry) (p : ℕ) (x : Entry) → IsTrail vars es → p < length es → oldest (p + 1) es ≡ x ∷ oldest p es → (k : ℕ) → In x.lit (trues (keep k es)) → top (oldest (p + 1) es) ≤ k
level_first vars [] p x t h at k i = absurd (omega (arith, h))
level_first vars (e ∷ es) p x t h at k i = elim (cases_lt p (length es)) [
  | inl less ↦
      let same = ap top (oldest_skip e es (p + 1) (omega (arith, less))) in
      elim (leb_tells (top (e ∷ es)) k) [
        | inl whole ↦
            let high = whole.1 in
            let under = top_oldest (p + 1) es (omega (arith, less)) in
            let more = level_after-at_least e.reason (top es) in
            omega (arith, same, high, under, more)
        | inr above ↦
            let rest = level_first vars es p x t.2 less (place_unskip e es x p less at) k (subst (λ (xs : List Entry). In x.lit (trues xs)) (keep-skip k e es above.1) i) in
            omega (arith, same, rest)
      ]
  | inr last ↦
      let all = oldest_whole (e ∷ es) (p + 1) (omega (arith, last, h)) in
      let tops = ap top all in
      elim (leb_tells (top (e ∷ es)) k) [
        | inl whole ↦ let high = whole.1 in omega (arith, tops, high)
        | inr above ↦
            let is : x ≡ e = ap (head_or x) (sym at ∙ all) in
            absurd (t.0.not_true (lit-keep_in k es e.lit (subst (λ (y : Entry). In y.lit (trues (keep k es))) is (subst (λ (xs : List Entry). In x.lit (trues xs)) (keep-skip k e es above.1) i))))
      ]
]
  where
    head_or : Entry → List Entry → Entry
    head_or d [] = d
    head_or d (y ∷ ys) = y

-- ---- going back below a level

pub some_same : (a b : ℤ) → Some a ≡ Some b → a ≡ b
some_same a b e = ap (λ (o : Option ℤ). value_or a o) e
  where
    value_or : ℤ → Option ℤ → ℤ
    value_or d None = d
    value_or d (Some x) = x

pub none_is_some : (a : ℤ) → ◌≡◌ {A = Option ℤ} None (Some a) → ⊥
none_is_some a e = cc

-- up to the level at which the last literal became false, all are false
pub last_all : (es : List Entry) (clause : List ℤ) (last : ℤ) (level : ℕ) → IsLast es clause None last → In (neg_ℤ last) (trues (keep level es)) → AllFalse (trues (keep level es)) clause
last_all es clause last level l there m i = elim (l.last level there m i) [ inl e ↦ absurd (none_is_some m e) | inr f ↦ f ]

pub last_others : (es : List Entry) (clause : List ℤ) (first last : ℤ) (level : ℕ) → IsLast es clause (Some first) last → In (neg_ℤ last) (trues (keep level es)) → AllFalseBut (trues (keep level es)) clause first
last_others es clause first last level l there m i = elim (l.last level there m i) [ inl e ↦ inl (sym (some_same first m e)) | inr f ↦ inr f ]

-- where all are false, no two are not
pub two_below : (es : List Entry) (clause : List ℤ) (level k : ℕ) → AllFalse (trues (keep level es)) clause → HasTwo (trues (keep k es)) clause → k < level
two_below es clause level k all two = elim (cases_lt k level) [
  | inl lower ↦ lower
  | inr higher ↦ absurd (two.one_open (lit-keep_more level k es (neg_ℤ two.one) higher (all two.one two.one_in)))
]

pub two_below_but : (es : List Entry) (clause : List ℤ) (first : ℤ) (level k : ℕ) → AllFalseBut (trues (keep level es)) clause first → HasTwo (trues (keep k es)) clause → k < level
two_below_but es clause first level k all two = elim (cases_lt k level) [
  | inl lower ↦ lower
  | inr higher ↦ elim (all two.one two.one_in) [
    | inl one ↦ elim (all two.other two.other_in) [
      | inl other ↦ absurd (two.differ (one ∙ sym other))
      | inr f ↦ absurd (two.other_open (lit-keep_more level k es (neg_ℤ two.other) higher f))
    ]
    | inr f ↦ absurd (two.one_open (lit-keep_more level k es (neg_ℤ two.one) higher f))
  ]
]

pub back_stays : (es : List Entry) (clause : List ℤ) (level n : ℕ) → AllFalse (trues (keep level es)) clause → level ≤ n + 1 → StaysWhereOpen es (keep n es) clause
back_stays es clause level n all near k two = let low = two_below es clause level k all two in keep_lower k n es (omega (arith, low, near))

-- ---- one literal more, forced at a level

module _ (es new : List Entry) (clause : List ℤ) (first : ℤ) (level id : ℕ) (within : level ≤ top es) (forced : IsForcedAt es new first level id) where
  abbrev e : Entry
  e = record { lit = first; reason = Some id; unit = None }

  low_top : top (keep level es) ≡ level
  low_top = top-keep_exact level es within

  pub forced_true : In first (trues new)
  forced_true = elim forced [
    | inl same ↦ subst (λ (xs : List Entry). In first (trues xs)) (sym same.1) (lit-keep_in level es first same.0)
    | inr back ↦ subst (λ (xs : List Entry). In first (trues xs)) (sym back.1) (inl refl)
  ]

  -- what is below the level is as it was
  lower_same : new ≡ e ∷ keep level es → (k : ℕ) → k < level → keep k new ≡ keep k es
  lower_same is k low = ap (keep k) is ∙ keep-skip k e (keep level es) (omega (arith, low_top, low)) ∙ keep_lower k level es (omega (arith, low))

  higher_same : new ≡ e ∷ keep level es → (k : ℕ) → level ≤ k → keep k new ≡ e ∷ keep level es
  higher_same is k high = ap (keep k) is ∙ keep-whole k (e ∷ keep level es) (omega (arith, low_top, high))

  pub forced_top : top new ≤ top es
  forced_top = elim forced [
    | inl same ↦ (let tops = ap top same.1 in omega (arith, tops))
    | inr back ↦ (let tops = ap top back.1 in omega (arith, tops, low_top, within))
  ]

  pub forced_grows : (db : List StoredClause) → IsReason db (trues (keep level es)) first id → IsConsequence db (trues (keep level es)) first → Grows db (keep (top new) es) new
  forced_grows db r c = elim forced [
    | inl same ↦ grows-from db (keep (top new) es) new (same.1 ∙ sym (keep-whole (top new) es (let tops = ap top same.1 in omega (arith, tops))))
    | inr back ↦
        let tops : top new ≡ level = ap top back.1 ∙ low_top in
        subst (λ (n : ℕ). Grows db (keep n es) new) (sym tops)
        (subst (Grows db (keep level es)) (sym back.1) (inr ((r, c), refl, grows-refl db (keep level es))))
  ]

  pub forced_stays : AllFalseBut (trues (keep level es)) clause first → StaysWhereOpen es new clause
  forced_stays others k two = elim forced [
    | inl same ↦ ap (keep k) same.1
    | inr back ↦ lower_same back.1 k (two_below_but es clause first level k others two)
  ]

  -- below its level another literal is not false either, where there is one
  abbrev HasSecond : Type 0
  HasSecond = (second : ℤ) × In second clause × (first ≢ second) × ((k : ℕ) → In (neg_ℤ second) (trues (keep k es)) → level ≤ k)

  pub forced_loose : In first clause → (¬ In (neg_ℤ first) (trues es)) → ((level ≡ 0) ⊎ HasSecond) → IsLooseBelow es (top new) clause
  forced_loose has out second k below = elim forced [
    | inl same ↦ elim (cases_lt k level) [
      | inl low ↦ two low
      | inr high ↦ inl (first, has, lit-keep_more level k es first high same.0)
    ]
    | inr back ↦ two (let tops = ap top back.1 in omega (arith, tops, low_top, below))
  ]
    where
      two : k < level → IsLoose (trues (keep k es)) clause
      two low = elim second [
        | inl none ↦ absurd (omega (arith, low, none))
        | inr s ↦ inr (record {
          one = first;
          other = s.0;
          one_in = has;
          other_in = s.1;
          differ = s.2;
          one_open = λ i. out (lit-keep_in k es (neg_ℤ first) i);
          other_open = λ i. let high = s.3 k i in omega (arith, high, low);
        })
      ]

  -- what became false at the level guards what is true up to it
  pub forced_guard : (done : ℕ) (second : ℤ) → ((k : ℕ) → In (neg_ℤ second) (trues (keep k es)) → level ≤ k) → IsGuarded new done second first
  forced_guard done second last was k i = elim forced [
    | inl same ↦
        let high = last k (subst (λ (xs : List Entry). In (neg_ℤ second) (trues (keep k xs))) same.1 i) in
        subst (λ (xs : List Entry). In first (trues (keep k xs))) (sym same.1) (lit-keep_more level k es first high same.0)
    | inr back ↦ elim (cases_lt k level) [
      | inl low ↦ (let high = last k (subst (λ (xs : List Entry). In (neg_ℤ second) (trues xs)) (lower_same back.1 k low) i) in absurd (omega (arith, high, low)))
      | inr high ↦ subst (λ (xs : List Entry). In first (trues xs)) (sym (higher_same back.1 k high)) (inl refl)
    ]
  ]

  pub forced_root : level ≡ 0 → In first (trues (keep 0 new))
  forced_root zero = elim forced [
    | inl same ↦ subst (λ (xs : List Entry). In first (trues (keep 0 xs))) (sym same.1) (subst (λ (n : ℕ). In first (trues (keep n es))) zero same.0)
    | inr back ↦ subst (λ (xs : List Entry). In first (trues xs)) (sym (higher_same back.1 0 (omega (arith, zero)))) (inl refl)
  ]

-- ---- the two steps one after the other

module _ (db : List StoredClause) (es mid new : List Entry) (clause : List ℤ) (back : mid ≡ keep (top mid) es) (grows : Grows db (keep (top new) mid) new) where
  pub joined_top : top new ≤ top mid
  joined_top = elim (cases_lt (top new) (top mid)) [
    | inl less ↦ omega (arith, less)
    | inr high ↦
        let tops = top_grows db (keep (top new) mid) new grows in
        let same = ap top (keep-whole (top new) mid high) in
        omega (arith, tops, same)
  ]

  joined_keep : (k : ℕ) → k ≤ top mid → keep k mid ≡ keep k es
  joined_keep k low = ap (keep k) back ∙ keep_lower k (top mid) es low

  pub joined_grows : Grows db (keep (top new) es) new
  joined_grows = subst (λ (xs : List Entry). Grows db xs new) (joined_keep (top new) joined_top) grows

  pub joined_loose : IsLooseBelow mid (top new) clause → IsLooseBelow es (top new) clause
  joined_loose loose k below = subst (λ (xs : List Entry). IsLoose (trues xs) clause) (joined_keep k (omega (arith, below, joined_top))) (loose k below)

  pub joined_stays : StaysWhereOpen es mid clause → StaysWhereOpen mid new clause → StaysWhereOpen es new clause
  joined_stays one two k has =
      let same = one k has in
      two k (subst (λ (xs : List Entry). HasTwo (trues xs) clause) (sym same) has) ∙ same

-- ---- the search for the last one

-- of the literals seen so far
pub record IsLastOf (es : List Entry) (clause seen : List ℤ) (but : Option ℤ) (lit : ℤ) : Type 0 where
  pub has : In lit clause
  pub other : but ≢ Some lit
  pub is_false : In (neg_ℤ lit) (trues es)
  pub last : (level : ℕ) → In (neg_ℤ lit) (trues (keep level es)) → (m : ℤ) → In m seen → (but ≡ Some m) ⊎ In (neg_ℤ m) (trues (keep level es))

module _ (es : List Entry) (clause : List ℤ) (but : Option ℤ) (i : ℕ) (x : ℤ) (within : i < length clause) (at : x ≡ get_or clause i x) where
  -- one literal more is `but`, or it is seen
  more_last : (level : ℕ) → ((but ≡ Some x) ⊎ In (neg_ℤ x) (trues (keep level es)))
      → ((m : ℤ) → In m (take i clause) → (but ≡ Some m) ⊎ In (neg_ℤ m) (trues (keep level es)))
      → (m : ℤ) → In m (take (i + 1) clause) → (but ≡ Some m) ⊎ In (neg_ℤ m) (trues (keep level es))
  more_last level here old m j = elim (In-take_more clause i x m within j) [
    | inl seen ↦ old m seen
    | inr same ↦ subst (λ (k : ℤ). (but ≡ Some k) ⊎ In (neg_ℤ k) (trues (keep level es))) (at ∙ sym same) here
  ]

  pub none_skip : but ≡ Some x → ((m : ℤ) → In m (take i clause) → but ≡ Some m) → (m : ℤ) → In m (take (i + 1) clause) → but ≡ Some m
  none_skip is old m j = elim (In-take_more clause i x m within j) [ inl seen ↦ old m seen | inr same ↦ is ∙ ap (λ (k : ℤ). Some k) (at ∙ sym same) ]

  pub last_skip : (r : ℤ) → but ≡ Some x → IsLastOf es clause (take i clause) but r → IsLastOf es clause (take (i + 1) clause) but r
  last_skip r is l = record { has = l.has; other = l.other; is_false = l.is_false; last = λ level there. more_last level (inl is) (l.last level there) }

  pub some_skip : (last : Option ℤ) → but ≡ Some x → IfSome last (IsLastOf es clause (take i clause) but) → IfSome last (IsLastOf es clause (take (i + 1) clause) but)
  some_skip None is l = tt
  some_skip (Some r) is l = last_skip r is l

  pub nones_skip : (last : Option ℤ) → but ≡ Some x → IfNone last ((m : ℤ) → In m (take i clause) → but ≡ Some m) → IfNone last ((m : ℤ) → In m (take (i + 1) clause) → but ≡ Some m)
  nones_skip None is old = none_skip is old
  nones_skip (Some r) is old = tt

  pub last_new : (last : Option ℤ) (r : ℤ) → but ≢ Some x → In x clause → In (neg_ℤ x) (trues es) → ((r ≡ x) ⊎ (last ≡ Some r))
      → ((level : ℕ) → In (neg_ℤ r) (trues (keep level es)) → In (neg_ℤ x) (trues (keep level es)))
      → IfSome last (λ m. (level : ℕ) → In (neg_ℤ r) (trues (keep level es)) → In (neg_ℤ m) (trues (keep level es)))
      → IfSome last (IsLastOf es clause (take i clause) but) → IfNone last ((m : ℤ) → In m (take i clause) → but ≡ Some m)
      → IsLastOf es clause (take (i + 1) clause) but r
  last_new None r ne has f one over_x over some none = elim one [
    | inl is ↦ record {
      has = subst (λ (k : ℤ). In k clause) (sym is) has;
      other = λ e. ne (e ∙ ap (λ (k : ℤ). Some k) is);
      is_false = subst (λ (k : ℤ). In (neg_ℤ k) (trues es)) (sym is) f;
      last = λ level there. more_last level (inr (over_x level there)) (λ m j. inl (none m j));
    }
    | inr e ↦ absurd (none_is_some r e)
  ]
  last_new (Some y) r ne has f one over_x over some none = elim one [
    | inl is ↦ record {
      has = subst (λ (k : ℤ). In k clause) (sym is) has;
      other = λ e. ne (e ∙ ap (λ (k : ℤ). Some k) is);
      is_false = subst (λ (k : ℤ). In (neg_ℤ k) (trues es)) (sym is) f;
      last = λ level there. more_last level (inr (over_x level there)) (some.last level (over level there));
    }
    | inr e ↦
        let is : r ≡ y = sym (some_same y r e) in
        record {
          has = subst (λ (k : ℤ). In k clause) (sym is) some.has;
          other = λ g. some.other (g ∙ ap (λ (k : ℤ). Some k) is);
          is_false = subst (λ (k : ℤ). In (neg_ℤ k) (trues es)) (sym is) some.is_false;
          last = λ level there. more_last level (inr (over_x level there)) (some.last level (over level there));
        }
  ]

-- all were seen
pub last_seen : (es : List Entry) (clause : List ℤ) (but : Option ℤ) (i : ℕ) (r : ℤ) → length clause ≤ i → IsLastOf es clause (take i clause) but r → IsLast es clause but r
last_seen es clause but i r all l = record {
  has = l.has;
  other = l.other;
  is_false = l.is_false;
  last = λ level there m j. l.last level there m (subst (In m) (sym (take_all i clause all)) j);
}

pub none_seen : (clause : List ℤ) (but : Option ℤ) (i : ℕ) → length clause ≤ i → ((m : ℤ) → In m (take i clause) → but ≡ Some m) → (m : ℤ) → In m clause → but ≡ Some m
none_seen clause but i all old m j = old m (subst (In m) (sym (take_all i clause all)) j)

pub some_last : (es : List Entry) (clause : List ℤ) (but : Option ℤ) (i : ℕ) (last : Option ℤ) → length clause ≤ i → IfSome last (IsLastOf es clause (take i clause) but) → IfSome last (IsLast es clause but)
some_last es clause but i None all l = tt
some_last es clause but i (Some r) all l = last_seen es clause but i r all l

pub none_last : (clause : List ℤ) (but : Option ℤ) (i : ℕ) (last : Option ℤ) → length clause ≤ i → IfNone last ((m : ℤ) → In m (take i clause) → but ≡ Some m) → IfNone last ((m : ℤ) → In m clause → but ≡ Some m)
none_last clause but i None all old = none_seen clause but i all old
none_last clause but i (Some r) all old = tt
