-- Steps to the first unique implication point, and what is kept after it.
use Rattle.std.proofs.Common.{◌≡◌, ◌⊎◌, ℕ, ◌+◌, ◌-◌, ◌<◌, ◌≤◌, Bool, true, false, List, [], ◌∷◌, ◌++◌, length, max, Option, Some, None, refl, sym, ◌∙◌, ap, subst, inl, inr, arith, append_assoc, append-nil}
use Rattle.std.specs.Prelude.{ℤ, neg_ℤ, reverse}
use Rattle.std.proofs.Math.IntN.{neg_ℤ-neg_ℤ}
use Rattle.std.proofs.lemmas.Bool.{cases_lt, true≢false, false≢true}
use Rattle.sat_base.specs.Members.{In}
use Rattle.sat_base.specs.Database.{StoredClause}
use Rattle.sat_base.specs.Units.{AllFalse}
use Rattle.sat_base.specs.Work.{TakesGreatest}
use Rattle.sat_base.proofs.Members.{In-append_left, In-append_right, In-append_cases}
use Rattle.trail_book.specs.declared.entry.Entry.{Entry}
use Rattle.trail_book.specs.Trail.{trues, level_after, top, keep, oldest, IsTrail}
use Rattle.trail_book.proofs.TrailLemmas.{lit-keep_in, lit-keep_more, trail_consistent}
use Rattle.learn_step.specs.Reasons.{AreReasoned, before_last, IsConflict}
use Rattle.learn_step.specs.Learnt.{HasSecond, IsLearnt}
use Rattle.learn_step.specs.Places.{literal_at, false_at, level_of, hint_of, HasPlaces, IsHighest}
use Rattle.learn_step.specs.Analysis.{IsBroughtIn, IsStep, IsAnalysis, IsAboveUip, AreLower, IsAtUip, IsFalseWithin, AreKept}
use Rattle.learn_step.proofs.PlaceLemmas.{oldest_all, top_oldest, top_oldest_all, literal_of, literal_true, literal_open, false_kept, false_open, hand_lit}
use Rattle.learn_step.proofs.AnalysisLemmas.{same_some, taken_below, brought_false, analysis_false, analysis_kept, analysis_resolved, analysis_follows, hint_none}

level_le_top : (es : List Entry) (p : ℕ) → level_of es p ≤ top es
level_le_top es p = top_oldest_all (p + 1) es

level_rises : (es : List Entry) (q p : ℕ) → q ≤ p → level_of es q ≤ level_of es p
level_rises es q p le = top_oldest (q + 1) (p + 1) es (omega (arith, le))

-- a decision is a level above all places before it
decision_level : (es : List Entry) (p : ℕ) (e : Entry) → oldest (p + 1) es ≡ e ∷ oldest p es → e.reason ≡ None → level_of es p ≡ top (oldest p es) + 1
decision_level es p e at none = ap top at ∙ ap (λ (r : Option ℕ). level_after r (top (oldest p es))) none

-- To the first unique implication point.

-- the falsified clause has a literal of the top level
pub above_begun : (vars : ℕ) (db : List StoredClause) (es : List Entry) (id : ℕ) (old new hints more : List ℕ) (lits : List ℤ) → IsTrail vars es → 0 < top es → IsConflict db es id
    → old ≡ [] → lits ≡ [] → hints ≡ [] → IsBroughtIn db es id (length es) old new hints more → IsAboveUip db es new lits more
above_begun vars db es id old new hints more lits trail level f no_old no_lits no_hints b = record {
  analysis = analysis_false vars db es id f.clause old new hints more lits trail f.named f.is_false no_old no_lits no_hints b;
  none_kept = no_lits;
  some_top =
      (let (q, there, is) = found in (q, there, at_top q (under q there) is));
}
  where
    same : f.clause ≡ b.clause
    same = same_some f.clause b.clause (sym f.named ∙ b.named)

    found : (q : ℕ) × In q new × (f.some_open.one ≡ false_at es q)
    found =
        brought_false vars es b.clause (length es) old new f.some_open.one trail b.places (subst (In f.some_open.one) same f.some_open.has)
        (subst (λ (xs : List Entry). In (neg_ℤ f.some_open.one) (trues xs)) (sym (oldest_all es)) (f.is_false f.some_open.one f.some_open.has))

    under : (q : ℕ) → In q new → q < length es
    under q there = elim (b.places.only q there) [ inl before ↦ absurd (subst (In q) no_old before) | inr g ↦ g.lower ]

    at_top : (q : ℕ) → q < length es → f.some_open.one ≡ false_at es q → level_of es q ≡ top es
    at_top q lt is = elim (cases_lt (level_of es q) (top es)) [
      | inl less ↦
          absurd
          (f.some_open.still_open
          (subst (λ (k : ℤ). In (neg_ℤ k) (trues (before_last es))) (sym is) (false_kept es q (top es - 1) lt (omega (arith, less)))))
      | inr more1 ↦ (let le = level_le_top es q in omega (arith, le, more1))
    ]

-- the place that was taken is no decision, if another is of the top level
pub above_forced : (es : List Entry) (p : ℕ) (e : Entry) (old mid : List ℕ) (level : ℕ) → 0 < top es → oldest (p + 1) es ≡ e ∷ oldest p es → TakesGreatest old mid (Some p)
    → IsHighest es mid level → top es ≤ level → ¬ (hint_of e ≡ None)
above_forced es p e old mid level positive at t h le none =
    let (q, there, is) = h.reached (omega (arith, positive, le)) in
    let lower = taken_below old mid p t q there in
    let own = decision_level es p e at (hint_none e none) in
    let rises = top_oldest (q + 1) p es (omega (arith, lower)) in
    let high = level_le_top es p in
    absurd (omega (arith, is, own, rises, high, le))

pub above_resolved : (vars : ℕ) (db : List StoredClause) (es : List Entry) (p : ℕ) (e : Entry) (id : ℕ) (old mid new : List ℕ) (lits : List ℤ) (hints more : List ℕ) (level : ℕ) → IsTrail vars es
    → AreReasoned db es → 0 < top es → oldest (p + 1) es ≡ e ∷ oldest p es → hint_of e ≡ Some id → TakesGreatest old mid (Some p) → IsHighest es mid level → top es ≤ level
    → IsBroughtIn db es id p mid new hints more → IsAboveUip db es old lits hints → IsAboveUip db es new lits more
above_resolved vars db es p e id old mid new lits hints more level trail reasoned positive at hint t h le b a = record {
  analysis = analysis_resolved vars db es (length es) p e id old mid new lits hints more trail reasoned (a.analysis.below p t.0.has) at hint t b a.analysis;
  none_kept = a.none_kept;
  some_top =
      (let (q, there, is) = h.reached (omega (arith, positive, le)) in
      let high = level_le_top es q in
      (q, b.places.kept q there, omega (arith, is, high, le)));
}

-- one step, where another literal is of the top level
pub above_step : (vars : ℕ) (db : List StoredClause) (es : List Entry) (p : ℕ) (stays : Bool) (old mid new : List ℕ) (lits after : List ℤ) (hints more : List ℕ) (level : ℕ) → IsTrail vars es
    → AreReasoned db es → 0 < top es → TakesGreatest old mid (Some p) → IsHighest es mid level → stays ≡ false → top es ≤ level → IsStep db es p stays mid new lits after hints more
    → IsAboveUip db es old lits hints → IsAboveUip db es new after more
above_step vars db es p true old mid new lits after hints more level trail reasoned positive t h goes le s a = absurd (true≢false goes)
above_step vars db es p false old mid new lits after hints more level trail reasoned positive t h goes le s a =
    let (same, replaced) = s.becomes in
    let (id, forced, b) = replaced in
    subst (λ (ls : List ℤ). IsAboveUip db es new ls more) (sym same)
    (above_resolved vars db es p s.entry id old mid new lits hints more level trail reasoned positive s.at forced t h le b a)

-- one literal of the top level is left
pub at_uip : (vars : ℕ) (db : List StoredClause) (es : List Entry) (p : ℕ) (e : Entry) (old new : List ℕ) (lits : List ℤ) (hints : List ℕ) (level : ℕ) → IsTrail vars es
    → oldest (p + 1) es ≡ e ∷ oldest p es → TakesGreatest old new (Some p) → IsHighest es new level → level < top es → IsAboveUip db es old lits hints
    → IsAtUip db es new (lits ++ neg_ℤ e.lit ∷ []) hints
at_uip vars db es p e old new lits hints level trail at t h less a = record {
  analysis = analysis_kept db es (length es) p e old new lits hints at t a.analysis;
  first = neg_ℤ e.lit;
  is = ap (λ (ls : List ℤ). ls ++ neg_ℤ e.lit ∷ []) a.none_kept;
  is_false = subst (λ (k : ℤ). In k (trues es)) (sym (neg_ℤ-neg_ℤ e.lit)) on;
  unset = record {
    not_true = λ i. trail_consistent vars es trail e.lit on (lit-keep_in (top es - 1) es (neg_ℤ e.lit) i);
    not_false = λ i. still_open (subst (λ (k : ℤ). In k (trues (before_last es))) (neg_ℤ-neg_ℤ e.lit) i);
  };
  lower = λ q i. let up = h.above q i in omega (arith, up, less);
}
  where
    lt : p < length es
    lt = a.analysis.below p t.0.has

    lit : literal_at es p ≡ e.lit
    lit = literal_of es p e at

    on : In e.lit (trues es)
    on = subst (λ (k : ℤ). In k (trues es)) lit (literal_true es p lt)

    highest : level_of es p ≡ top es
    highest =
        let (q, there, is) = a.some_top in
        let rises = level_rises es q p (t.0.above q there) in
        let high = level_le_top es p in
        omega (arith, is, rises, high)

    still_open : ¬ In e.lit (trues (before_last es))
    still_open i = literal_open vars es p (top es - 1) trail lt (omega (arith, highest, less)) (subst (λ (k : ℤ). In k (trues (before_last es))) (sym lit) i)

-- one step, where no other literal is of the top level
pub uip_step : (vars : ℕ) (db : List StoredClause) (es : List Entry) (p : ℕ) (stays : Bool) (old mid new : List ℕ) (lits after : List ℤ) (hints more : List ℕ) (level : ℕ) → IsTrail vars es
    → TakesGreatest old mid (Some p) → IsHighest es mid level → stays ≡ true → level < top es → IsStep db es p stays mid new lits after hints more → IsAboveUip db es old lits hints
    → IsAtUip db es new after more
uip_step vars db es p false old mid new lits after hints more level trail t h stay less s a = absurd (false≢true stay)
uip_step vars db es p true old mid new lits after hints more level trail t h stay less s a =
    let (places, kept, same) = s.becomes in
    subst (λ (ps : List ℕ). IsAtUip db es ps after more) (sym places)
    (subst (λ (ls : List ℤ). IsAtUip db es mid ls more) (sym kept)
    (subst (IsAtUip db es mid (lits ++ neg_ℤ s.entry.lit ∷ [])) (sym same) (at_uip vars db es p s.entry old mid lits hints level trail s.at t h less a)))

-- After it.
pub kept_begun : (es : List Entry) (places : List ℕ) (lits : List ℤ) → 0 < top es → AreLower es places → AreKept es lits places lits 0
kept_begun es places lits positive lower = record {
  added = [];
  is = sym (append-nil lits);
  lower = lower;
  below = positive;
  each = λ l i. absurd i;
  reached = λ up. absurd (omega (arith, up));
}

-- a literal that is within a level is within a higher one
within_more : (es : List Entry) (level more : ℕ) (l : ℤ) → level ≤ more → IsFalseWithin es level l → IsFalseWithin es more l
within_more es level more l le f = record {
  place = f.place;
  within = f.within;
  is = f.is;
  above = f.above;
  up_to = (let up = f.up_to in omega (arith, up, le));
}

pub kept_kept : (es : List Entry) (p : ℕ) (e : Entry) (old new : List ℕ) (before lits : List ℤ) (level : ℕ) → oldest (p + 1) es ≡ e ∷ oldest p es → p < length es → 0 < level_of es p
    → TakesGreatest old new (Some p) → AreKept es before old lits level → AreKept es before new (lits ++ neg_ℤ e.lit ∷ []) (max level (level_of es p))
kept_kept es p e old new before lits level at lt up t k = record {
  added = k.added ++ neg_ℤ e.lit ∷ [];
  is = ap (λ (ls : List ℤ). ls ++ neg_ℤ e.lit ∷ []) k.is ∙ append_assoc before k.added (neg_ℤ e.lit ∷ []);
  lower = λ q i. k.lower q ((t.1 q).0 i).0;
  below = (let here = k.lower p t.0.has in let low = k.below in omega (arith, here, low));
  each = λ l i. elim (In-append_cases l k.added (neg_ℤ e.lit ∷ []) i) [
    | inl old1 ↦ within_more es level (max level (level_of es p)) l (omega arith) (k.each l old1)
    | inr (inl s) ↦ record { place = p; within = lt; is = s ∙ sym is; above = up; up_to = omega arith }
    | inr (inr never) ↦ absurd never
  ];
  reached = λ high. elim (cases_lt level (level_of es p)) [
    | inl less ↦ record { place = p; within = lt; has = In-append_right (false_at es p) k.added (neg_ℤ e.lit ∷ []) (inl is); is = omega (arith, less) }
    | inr more ↦ (let r = k.reached (omega (arith, more, up)) in record {
      place = r.place;
      within = r.within;
      has = In-append_left (false_at es r.place) k.added (neg_ℤ e.lit ∷ []) r.has;
      is = (let same = r.is in omega (arith, same, more));
    })
  ];
}
  where
    is : false_at es p ≡ neg_ℤ e.lit
    is = ap neg_ℤ (literal_of es p e at)

pub kept_resolved : (es : List Entry) (p : ℕ) (clause : List ℤ) (old mid new : List ℕ) (before lits : List ℤ) (level : ℕ) → TakesGreatest old mid (Some p) → HasPlaces es clause p mid new
    → AreKept es before old lits level → AreKept es before new lits level
kept_resolved es p clause old mid new before lits level t h k = record {
  added = k.added;
  is = k.is;
  lower = λ q i. elim (h.only q i) [
    | inl there ↦ k.lower q ((t.1 q).0 there).0
    | inr f ↦ (let low = f.lower in let rises = level_rises es q p (omega (arith, low)) in let here = k.lower p t.0.has in omega (arith, rises, here))
  ];
  below = k.below;
  each = k.each;
  reached = k.reached;
}

-- one step, by which only what is above level 0 may stay
pub kept_step : (db : List StoredClause) (es : List Entry) (p : ℕ) (stays : Bool) (old mid new : List ℕ) (before lits after : List ℤ) (hints more : List ℕ) (level next : ℕ) → p < length es
    → TakesGreatest old mid (Some p) → (stays ≡ true → 0 < level_of es p) → (stays ≡ true → next ≡ max level (level_of es p)) → (stays ≡ false → next ≡ level)
    → IsStep db es p stays mid new lits after hints more → AreKept es before old lits level → AreKept es before new after next
kept_step db es p true old mid new before lits after hints more level next lt t up higher same_level s k =
    let (places, kept, same) = s.becomes in
    subst (AreKept es before new after) (sym (higher refl))
    (subst (λ (ps : List ℕ). AreKept es before ps after (max level (level_of es p))) (sym places)
    (subst (λ (ls : List ℤ). AreKept es before mid ls (max level (level_of es p))) (sym kept) (kept_kept es p s.entry old mid before lits level s.at lt (up refl) t k)))
kept_step db es p false old mid new before lits after hints more level next lt t up higher same_level s k =
    let (same, replaced) = s.becomes in
    let (id, forced, b) = replaced in
    subst (AreKept es before new after) (sym (same_level refl))
    (subst (λ (ls : List ℤ). AreKept es before new ls level) (sym same) (kept_resolved es p b.clause old mid new before lits level t b.places k))

-- at level 0 nothing was decided
pub root_forced : (es : List Entry) (p : ℕ) (e : Entry) → oldest (p + 1) es ≡ e ∷ oldest p es → level_of es p ≡ 0 → ¬ (hint_of e ≡ None)
root_forced es p e at root none = let own = decision_level es p e at (hint_none e none) in absurd (omega (arith, own, root))

-- The end.
pub learnt_of : (vars : ℕ) (db : List StoredClause) (es : List Entry) (places : List ℕ) (before lits : List ℤ) (hints more : List ℕ) (back : ℕ) → IsTrail vars es → IsAtUip db es places before hints
    → IsAnalysis db es (length es) [] lits more → AreKept es before [] lits back → IsLearnt db es lits (reverse more) back
learnt_of vars db es places before lits hints more back trail u a k = record {
  first = u.first;
  rest = k.added;
  is = whole;
  follows = analysis_follows vars db es (length es) lits more trail none_true a;
  is_false = all_false;
  used = λ l i. a.used l (hand_lit es [] lits l i);
  above_root = above_root;
  unset = u.unset;
  others = λ l i. elim (cases l i) [
    | inl s ↦ inl s
    | inr d ↦ inr (let less = k.below in lit-keep_more back (top es - 1) es (neg_ℤ l) (omega (arith, less)) (up_to_back l d))
  ];
  back = record {
    below = k.below;
    others = λ l i. elim (cases l i) [ inl s ↦ inl s | inr d ↦ inr (up_to_back l d) ];
    second = second;
  };
}
  where
    whole : lits ≡ u.first ∷ k.added
    whole = k.is ∙ ap (λ (ls : List ℤ). ls ++ k.added) u.is

    cases : (l : ℤ) → In l lits → (l ≡ u.first) ⊎ In l k.added
    cases l i = subst (In l) whole i

    up_to_back : (l : ℤ) → In l k.added → In (neg_ℤ l) (trues (keep back es))
    up_to_back l i = let f = k.each l i in subst (λ (m : ℤ). In (neg_ℤ m) (trues (keep back es))) (sym f.is) (false_kept es f.place back f.within f.up_to)

    all_false : AllFalse (trues es) lits
    all_false l i = elim (cases l i) [
      | inl s ↦ subst (λ (m : ℤ). In (neg_ℤ m) (trues es)) (sym s) u.is_false
      | inr d ↦ lit-keep_in back es (neg_ℤ l) (up_to_back l d)
    ]

    above_root : (l : ℤ) → In l lits → ¬ In (neg_ℤ l) (trues (keep 0 es))
    above_root l i root = elim (cases l i) [
      | inl s ↦
          u.unset.not_false
          (subst (λ (m : ℤ). In (neg_ℤ m) (trues (before_last es))) s (lit-keep_more 0 (top es - 1) es (neg_ℤ l) (omega arith) root))
      | inr d ↦
          (let f = k.each l d in
          false_open vars es f.place 0 trail f.within f.above
          (subst (λ (m : ℤ). In (neg_ℤ m) (trues (keep 0 es))) f.is root))
    ]

    none_true : (m : ℤ) → In m lits → ¬ In m (trues (oldest (length es) es))
    none_true m i t = trail_consistent vars es trail m (subst (λ (xs : List Entry). In m (trues xs)) (oldest_all es) t) (all_false m i)

    second : 0 < back → HasSecond es lits u.first back
    second up =
        let r = k.reached up in
        let is = r.is in
        let less = k.below in
        record {
          one = false_at es r.place;
          has = subst (In (false_at es r.place)) (sym whole) (inr r.has);
          other = λ s.
              u.unset.not_false
              (subst (λ (m : ℤ). In (neg_ℤ m) (trues (before_last es))) s (lit-keep_more back (top es - 1) es (neg_ℤ (false_at es r.place)) (omega (arith, less)) (up_to_back (false_at es r.place) r.has)));
          still_open = false_open vars es r.place (back - 1) trail r.within (omega (arith, is, up));
        }
