-- What a learnt clause has to show to be watched.
use Rattle.std.proofs.Common.{◌≡◌, ◌≢◌, ℕ, zero, suc, ◌+◌, ◌-◌, ◌<◌, ◌≤◌, List, ◌∷◌, length, Some, None, refl, sym, ◌∙◌, ap, subst, inl, inr, arith}
use Rattle.std.specs.Prelude.{ℤ, neg_ℤ, pos, negsuc}
use Rattle.sat_base.specs.Literals.{var_of}
use Rattle.sat_base.specs.Units.{IsUnset, HasValue, AllFalseBut}
use Rattle.sat_base.specs.Database.{StoredClause}
use Rattle.learn_step.specs.Learnt.{IsLearnt}
use Rattle.cdcl_core.specs.Entrance.{IsLatest, IsAsserting}
use Rattle.learn_step.proofs.PlaceLemmas.{false_kept, false_open, place_false, top_oldest_all}
use Rattle.std.proofs.lemmas.Bool.{cases_lt}
use Rattle.sat_base.specs.Members.{In}
use Rattle.trail_book.specs.declared.entry.Entry.{Entry}
use Rattle.trail_book.specs.Trail.{trues, top, keep, oldest, IsTrail, IsPlace}
use Rattle.trail_book.proofs.TrailLemmas.{keep-whole, keep-skip, lit-keep_more, top-keep_exact}
use Rattle.trail_book.proofs.PlaceLemmas.{oldest_skip}
use Rattle.propagate.specs.Watches.{IsGuarded}
use Rattle.propagate.proofs.LevelLemmas.{oldest_in, keep_lower}
use Rattle.learn_step.specs.Reasons.{before_last}

-- a literal that became true after all that was propagated has nothing to guard
pub new_guard : (e : Entry) (es : List Entry) (done : ℕ) (lit other : ℤ) → done ≤ length es → (¬ In (neg_ℤ lit) (trues es)) → IsGuarded (e ∷ es) done lit other
new_guard e es done lit other fits out was level i = absurd (out (oldest_in (neg_ℤ lit) done es (subst (λ (xs : List Entry). In (neg_ℤ lit) (trues xs)) (oldest_skip e es done fits) was)))

-- what became false at the top level is guarded by what becomes true there
pub latest_guard : (id : ℕ) (es : List Entry) (done : ℕ) (first lit : ℤ) → (¬ In (neg_ℤ lit) (trues (before_last es))) → 0 < top es
    → IsGuarded (record { lit = first; reason = Some id; unit = None } ∷ es) done lit first
latest_guard id es done first lit out up was level i = elim (cases_lt level (top es)) [
  | inl below ↦
      let e : Entry = record { lit = first; reason = Some id; unit = None } in
      let low = subst (λ (xs : List Entry). In (neg_ℤ lit) (trues xs)) (keep-skip level e es below) i in
      absurd (out (lit-keep_more level (top es - 1) es (neg_ℤ lit) (omega (arith, below)) low))
  | inr high ↦
      let e : Entry = record { lit = first; reason = Some id; unit = None } in
      let whole = keep-whole level (e ∷ es) (omega (arith, high)) in
      subst (λ (xs : List Entry). In first (trues xs)) (sym whole) (inl refl)
]

pub has_value : (ts : List ℤ) (l : ℤ) → In (neg_ℤ l) ts → HasValue ts (pos (var_of l))
has_value ts (pos zero) i = inl i
has_value ts (pos (suc v)) i = inr i
has_value ts (negsuc v) i = inl i

-- the level of a literal that is false, against the entries before the last decision
pub level_high : (vars : ℕ) (es : List Entry) (l : ℤ) (p : ℕ) → IsTrail vars es → IsPlace es (var_of l) p → In (neg_ℤ l) (trues es) → 0 < top es → top (oldest (p + 1) es) ≡ top es → ¬ In (neg_ℤ l) (trues (before_last es))
level_high vars es l p t q f up same i =
    let is = place_false vars es l p t q f in
    false_open vars es p (top es - 1) t q.within (omega (arith, up, same)) (subst (λ (m : ℤ). In (neg_ℤ m) (trues (before_last es))) (sym is) i)

pub level_low : (vars : ℕ) (es : List Entry) (l : ℤ) (p : ℕ) → IsTrail vars es → IsPlace es (var_of l) p → In (neg_ℤ l) (trues es) → top (oldest (p + 1) es) ≢ top es → In (neg_ℤ l) (trues (before_last es))
level_low vars es l p t q f ne =
    let is = place_false vars es l p t q f in
    let low = top_oldest_all (p + 1) es in
    subst (λ (m : ℤ). In (neg_ℤ m) (trues (before_last es))) is (false_kept es p (top es - 1) q.within (omega (arith, low, ne)))

-- not all others were false before
pub none_latest : (es : List Entry) (clause : List ℤ) (first : ℤ) → 0 < top es → (lit : ℤ) × IsLatest es clause first lit → AllFalseBut (trues (before_last es)) clause first → ⊥
none_latest es clause first up x all = elim (all x.0 x.1.has) [ inl e ↦ x.1.other e | inr f ↦ x.1.still_open f ]

-- a learnt clause asserts its first literal on the trail that is left
pub asserts : (db : List StoredClause) (es : List Entry) (lits : List ℤ) (hints : List ℕ) (back : ℕ) (r : IsLearnt db es lits hints back) → IsUnset (trues (keep back es)) r.first → IsAsserting (keep back es) lits r.first
asserts db es lits hints back r unset =
    let below = r.back.below in
    let level : top (keep back es) ≡ back = top-keep_exact back es (omega (arith, below)) in
    record {
      has = subst (λ (ls : List ℤ). In r.first ls) (sym r.is) (inl refl);
      unset = unset;
      others = r.back.others;
      second = λ up.
          let x = r.back.second (omega (arith, up, level)) in
          let same : keep (top (keep back es) - 1) (keep back es) ≡ keep (back - 1) es = ap (λ (n : ℕ). keep (n - 1) (keep back es)) level ∙ keep_lower (back - 1) back es (omega arith) in
          (x.one, record { has = x.has; other = x.other; still_open = λ i. x.still_open (subst (λ (xs : List Entry). In (neg_ℤ x.one) (trues xs)) same i) });
    }
