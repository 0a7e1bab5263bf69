-- What two questions share of a trail.
use Rattle.std.proofs.Common.{◌≡◌, ◌⊎◌, ℕ, ◌+◌, ◌<◌, ◌≤◌, min, List, [], ◌∷◌, Option, Some, None, is_some, false, refl, sym, ◌∙◌, ap, subst, inl, inr, arith}
use Rattle.std.specs.Prelude.{ℤ}
use Rattle.std.proofs.lemmas.Bool.Decides.{leb_tells}
use Rattle.sat_base.specs.Members.{In}
use Rattle.sat_base.specs.Literals.{var_of}
use Rattle.sat_base.specs.Database.{StoredClause}
use Rattle.sat_base.specs.Units.{AllTrue}
use Rattle.trail_book.specs.declared.entry.Entry.{Entry}
use Rattle.trail_book.specs.Trail.{trues, level_after, top, keep}
use Rattle.trail_book.proofs.TrailLemmas.{keep-whole, keep-skip, top-keep, top-keep_exact, lit-keep_in, keep-in, level_after-at_least, IsTrail-keep}
use Rattle.propagate.proofs.LevelLemmas.{keep_lower}
use Rattle.lrat_steps.specs.Log.{LogStep}
use Rattle.learn_step.specs.Reasons.{IsDecision}
use Rattle.cdcl_core.specs.State.{IsSoundEntry, IsSound, IsState, ArePositive}
use Rattle.cdcl_core.specs.Resuming.{IsShared}
use Rattle.cdcl_core.proofs.SearchLemmas.{sound_keep, sound_recount}
use Rattle.cdcl_core.proofs.PositiveLemmas.{positive_keep, positive_recount}

pub none_of : (o : Option ℕ) → is_some o ≡ false → o ≡ None
none_of None e = refl
none_of (Some id) e = cc

-- a level has one decision: where the literal is one of the top level, the others are lower
one_decision : (n : ℕ) (lit : ℤ) (es : List Entry) → top es ≤ n + 1 → In lit (trues es) → (¬ In lit (trues (keep n es))) → ((e : Entry) → In e es → var_of e.lit ≡ var_of lit → e.reason ≡ None)
    → (x : Entry) → In x es → x.reason ≡ None → In x (keep n es) ⊎ (x.lit ≡ lit)
one_decision n lit [] high on out decided x i none = absurd i
one_decision n lit (e ∷ es) high on out decided x i none = elim (leb_tells (top (e ∷ es)) n) [
  | inl whole ↦ absurd (out (subst (λ (xs : List Entry). In lit (trues xs)) (sym (keep-whole n (e ∷ es) whole.1)) on))
  | inr above ↦
      let skip = keep-skip n e es above.1 in
      let begins : e.reason ≡ None → keep n (e ∷ es) ≡ es =
      λ is. let level : top (e ∷ es) ≡ top es + 1 = ap (λ (r : Option ℕ). level_after r (top es)) is in skip ∙ keep-whole n es (omega (arith, level, high)) in
      elim on [
        | inl same ↦
            let is = begins (decided e (inl refl) (ap var_of (sym same))) in
            elim i [
              | inl this ↦ inr (ap (λ (y : Entry). y.lit) this ∙ sym same)
              | inr old ↦ inl (subst (In x) (sym is) old)
            ]
        | inr there ↦ elim i [
          | inl this ↦ absurd (out (subst (λ (xs : List Entry). In lit (trues xs)) (sym (begins (ap (λ (y : Entry). y.reason) (sym this) ∙ none))) there))
          | inr old ↦
              let more = level_after-at_least e.reason (top es) in
              elim (one_decision n lit es (omega (arith, more, high)) there (λ h. out (subst (λ (xs : List Entry). In lit (trues xs)) (sym skip) h)) (λ y j v. decided y (inr j) v) x old none) [
                | inl low ↦ inl (subst (In x) (sym skip) low)
                | inr same ↦ inr same
              ]
        ]
      ]
]

-- one level more, that began with the literal
pub shared_more : (n more : ℕ) (lit : ℤ) (es : List Entry) → more ≡ n + 1 → In lit (trues (keep more es)) → (¬ In lit (trues (keep n es))) → ((e : Entry) → In e es → var_of e.lit ≡ var_of lit → e.reason ≡ None)
    → IsShared es lit n more
shared_more n more lit es next on out decided = record {
  higher = omega (arith, next);
  is_true = on;
  decided = λ m d.
      let (x, i, is, none) = d in
      let high = top-keep more es in
      let same = keep_lower n more es (omega (arith, next)) in
      elim (one_decision n lit (keep more es) (omega (arith, next, high)) on (λ h. out (subst (λ (xs : List Entry). In lit (trues xs)) same h)) (λ e j v. decided e (keep-in more es e j) v) x i none) [
        | inl low ↦ inl (x, subst (In x) same low, is, none)
        | inr lit_is ↦ inr (sym is ∙ lit_is)
      ];
}

pub shared_same : (n : ℕ) (lit : ℤ) (es : List Entry) → In lit (trues (keep n es)) → IsShared es lit n n
shared_same n lit es on = record { higher = omega arith; is_true = on; decided = λ m d. inl d }

-- levels of which each decision is assumed
sound_assumed : (db : List StoredClause) (old new : List ℤ) (count n : ℕ) (es : List Entry) → top es ≤ n → ((l : ℤ) → IsDecision es l → In l new) → IsSound db old count es → IsSound db new n es
sound_assumed db old new count n [] low all s = tt
sound_assumed db old new count n (e ∷ es) low all s =
    (entry e.reason refl low s.0, s.1, sound_assumed db old new count n es (let more = level_after-at_least e.reason (top es) in omega (arith, more, low)) (λ l d. let (x, i, is, none) = d in all l (x, inr i, is, none)) s.2)
  where
    entry : (r : Option ℕ) → e.reason ≡ r → level_after r (top es) ≤ n → IsSoundEntry db old count es e.lit r → IsSoundEntry db new n es e.lit r
    entry (Some id) is low h = h
    entry None is low h = (inl (omega (arith, low), all e.lit (e, inl refl, refl, is)), h.1)

-- and choices above them, where all that is assumed is true there
sound_over : (db : List StoredClause) (old new : List ℤ) (count : ℕ) (es : List Entry) → AllTrue (trues (keep count es)) new → ((l : ℤ) → IsDecision (keep count es) l → In l new) → IsSound db old count es
    → IsSound db new count es
sound_over db old new count [] on all s = tt
sound_over db old new count (e ∷ es) on all s = elim (leb_tells (top (e ∷ es)) count) [
  | inl whole ↦ sound_assumed db old new count count (e ∷ es) whole.1 (λ l d. all l (subst (λ (xs : List Entry). IsDecision xs l) (sym (keep-whole count (e ∷ es) whole.1)) d)) s
  | inr above ↦
      let skip = keep-skip count e es above.1 in
      let low : AllTrue (trues (keep count es)) new = subst (λ (xs : List Entry). AllTrue (trues xs) new) skip on in
      (entry low e.reason above.1 s.0, s.1, sound_over db old new count es low (λ l d. all l (subst (λ (xs : List Entry). IsDecision xs l) (sym skip) d)) s.2)
]
  where
    entry : AllTrue (trues (keep count es)) new → (r : Option ℕ) → count < level_after r (top es) → IsSoundEntry db old count es e.lit r → IsSoundEntry db new count es e.lit r
    entry low (Some id) above h = h
    entry low None above (inl d, f) = let d0 = d.0 in absurd (omega (arith, above, d0))
    entry low None above (inr d, f) = (inr (d.0, λ l i. lit-keep_in count es l (low l i)), f)

pub state_shared : (vars : ℕ) (db : List StoredClause) (log : List LogStep) (es : List Entry) (old new : List ℤ) (count n : ℕ) → n ≤ count → ((l : ℤ) → IsDecision (keep n es) l → In l new) → IsState vars db log es old count
    → IsState vars db log (keep n es) new n
state_shared vars db log es old new count n low all s =
    let levels = s.levels in
    let exact = top-keep_exact n es (omega (arith, levels, low)) in
    record {
      recorded = s.recorded;
      trail = IsTrail-keep vars n es s.trail;
      sound = sound_assumed db old new count n (keep n es) (omega (arith, exact)) all (sound_keep db old count n es s.sound);
      levels = omega (arith, exact);
    }

pub positive_shared : (es : List Entry) (count n : ℕ) → ArePositive count es → ArePositive n (keep n es)
positive_shared es count n p = let high = top-keep n es in positive_recount count n (keep n es) (λ m low above. omega (arith, high, low, above)) (positive_keep count n es p)

pub state_whole : (vars : ℕ) (db : List StoredClause) (log : List LogStep) (es : List Entry) (old new : List ℤ) (count : ℕ) → AllTrue (trues (keep count es)) new → ((l : ℤ) → IsDecision (keep count es) l → In l new)
    → IsState vars db log es old count → IsState vars db log es new count
state_whole vars db log es old new count on all s = record { recorded = s.recorded; trail = s.trail; sound = sound_over db old new count es on all s.sound; levels = s.levels }

-- ---- back to a level

-- the levels that were assumed stay so
pub state_lower : (vars : ℕ) (db : List StoredClause) (log : List LogStep) (es : List Entry) (assumed : List ℤ) (count n new : ℕ) → new ≡ min count n → IsState vars db log es assumed count
    → IsState vars db log (keep n es) assumed new
state_lower vars db log es assumed count n new is s =
    let high = top-keep n es in
    record {
      recorded = s.recorded;
      trail = IsTrail-keep vars n es s.trail;
      sound = sound_recount db assumed count new (keep n es) (omega (arith, is)) (λ m low within. omega (arith, is, high, low, within)) (sound_keep db assumed count n es s.sound);
      levels = elim (leb_tells n (top es)) [
        | inl within ↦ let exact = top-keep_exact n es within.1 in omega (arith, is, exact)
        | inr above ↦ let whole = ap top (keep-whole n es (omega (arith, above.1))) in let levels = s.levels in omega (arith, is, whole, levels)
      ];
    }

pub positive_lower : (es : List Entry) (count n new : ℕ) → new ≡ min count n → ArePositive count es → ArePositive new (keep n es)
positive_lower es count n new is p = let high = top-keep n es in positive_recount count new (keep n es) (λ m low above. omega (arith, is, high, low, above)) (positive_keep count n es p)
