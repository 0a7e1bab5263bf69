-- How a tally takes in one more set.
use Rattle.std.proofs.Common.{◌≡◌, ◌≢◌, ℕ, zero, suc, ◌+◌, ◌-◌, ◌*◌, ◌<◌, ◌≤◌, Bool, true, false, not, ◌&&◌, ◌||◌, cond, List, [], ◌∷◌, ◌++◌, length, take, get_or, set, replicate, refl, sym, ◌∙◌, ap, subst, inl, inr, arith, eqb}
use Rattle.std.proofs.Math.Bool.{or-false}
use Rattle.std.specs.List.{count_by}
use Rattle.std.proofs.lemmas.Bool.{or_right, cases_eq, eq-eqb, ne_eqb}
use Rattle.std.proofs.lemmas.List.{set-get_or, get_or-set_same, get_or-set_other, get_or-replicate, length-replicate, length-set}
use Rattle.std.proofs.lemmas.List.Folds.{list_any-append, list_any_more, sum_by-replicate}
use Rattle.std.proofs.lemmas.List.Sums.{sum_by-set}
use Rattle.gm_base.specs.Sets.{has, IsSubset, all_groups}
use Rattle.gm_base.proofs.SetLemmas.{all_groups-has}
use Rattle.gm_base.specs.Explored.{Found}
use Rattle.gm_base.specs.Roles.{is_met, is_lacked, lacks, is_alone, stands_alone}
use Rattle.gm_base.specs.declared.kind.Kind.{Kind}
use Rattle.gm_base.specs.declared.kind.Kind.TheVariants.{Conflict, Correction}
use Rattle.map_core.specs.declared.tally.Tally.{Tally}
use Rattle.map_core.specs.Tallies.{is_open, IsTally, IsMet, IsCarried, IsFreed}
use Rattle.map_core.proofs.Tallies.{none-count}

-- a group of the set stands at a place
pub has-at : (groups : List ℕ) (k d : ℕ) → k < length groups → has groups (get_or groups k d) ≡ true
has-at [] k d low = absurd (omega arith)
has-at (g ∷ gs) zero d low = ap (λ b. b || has gs g) (eq-eqb g g refl)
has-at (g ∷ gs) (suc k) d low = or_right (eqb g (get_or gs k d)) (has gs (get_or gs k d)) (has-at gs k d (omega arith))

pub within-at : (groups : List ℕ) (n k d : ℕ) → IsSubset groups (all_groups n) → k < length groups
    → (0 < get_or groups k d) × (get_or groups k d ≤ n)
within-at groups n k d sub low = all_groups-has n (get_or groups k d) (sub (get_or groups k d) (has-at groups k d low))

-- one group more of the set
has-more : (groups : List ℕ) (k d j : ℕ) → k < length groups → has (take (k + 1) groups) j ≡ (has (take k groups) j || eqb (get_or groups k d) j)
has-more groups k d j low = list_any_more (λ h. eqb h j) groups k d low

-- a place that has what it is set to
pub set-same : {X : Type 0} (xs : List X) (i : ℕ) (d y : X) → get_or xs i d ≡ y → xs ≡ set xs i y
set-same xs i d y h = sym (set-get_or xs i d) ∙ ap (set xs i) h

-- one group fewer is unmet
pub count-met : (xs : List Bool) (i : ℕ) (d : Bool) → i < length xs → get_or xs i d ≡ false → count_by not (set xs i true) + 1 ≡ count_by not xs
count-met xs i d low h =
    let changed : count_by not (set xs i true) + cond (not (get_or xs i d)) 1 0 ≡ count_by not xs + 0 = sum_by-set (λ b. cond (not b) 1 0) xs i true d low in
    let one : cond {A = ℕ} (not (get_or xs i d)) 1 0 ≡ 1 = ap (λ b. cond {A = ℕ} (not b) 1 0) h in omega arith

pub IsMet-start : (old : List Bool) → IsMet [] old old
IsMet-start old = record { size = refl; at = λ i low. sym (or-false (get_or old i true)) }

pub IsMet-more : (groups : List ℕ) (old mid new : List Bool) (k d : ℕ) → k < length groups → IsMet (take k groups) old mid
    → 0 < get_or groups k d → get_or groups k d ≤ length mid → new ≡ set mid (get_or groups k d - 1) true
    → IsMet (take (k + 1) groups) old new
IsMet-more groups old mid new k d low h some within is =
    record {
      size = ap length is ∙ length-set mid (get_or groups k d - 1) true ∙ h.size;
      at = λ i here. elim (cases_eq i (get_or groups k d - 1)) [
        | inl same ↦
            let j : get_or groups k d ≡ i + 1 = omega arith in
            ap (λ xs. get_or xs i true) is ∙ ap (λ n. get_or (set mid (get_or groups k d - 1) true) n true) same
            ∙ get_or-set_same mid (get_or groups k d - 1) true true (omega arith)
            ∙ sym (or_right (get_or old i true) (has (take (k + 1) groups) (i + 1))
            (has-more groups k d (i + 1) low ∙ or_right (has (take k groups) (i + 1)) (eqb (get_or groups k d) (i + 1)) (eq-eqb (get_or groups k d) (i + 1) j)))
        | inr other ↦
            let j : get_or groups k d ≢ i + 1 = λ e. other (omega arith) in
            ap (λ xs. get_or xs i true) is ∙ get_or-set_other mid (get_or groups k d - 1) i true true other ∙ h.at i here
            ∙ ap (λ b. get_or old i true || b)
            (sym (has-more groups k d (i + 1) low ∙ ap (λ b. has (take k groups) (i + 1) || b) (ne_eqb (get_or groups k d) (i + 1) j) ∙ or-false (has (take k groups) (i + 1))))
      ];
    }

-- what a group of a conflict carries, which may have been looked at before
carried-hit : (n current : ℕ) (h : Bool)
    → cond (eqb (cond (eqb n current && h) (current + 1) n) current) (current + 1) (cond (eqb n current && h) (current + 1) n)
    ≡ cond (eqb n current && true) (current + 1) n
carried-hit n current h = by (eqb n current) h refl
  where
    by : (a h : Bool) → eqb n current ≡ a
        → cond (eqb (cond (a && h) (current + 1) n) current) (current + 1) (cond (a && h) (current + 1) n) ≡ cond (a && true) (current + 1) n
    by true true e = ap (λ b. cond b (current + 1) (current + 1)) (ne_eqb (current + 1) current (λ x. absurd (omega arith)))
    by true false e = ap (λ b. cond b (current + 1) n) e
    by false true e = ap (λ b. cond b (current + 1) n) e
    by false false e = ap (λ b. cond b (current + 1) n) e

pub IsCarried-start : (current : ℕ) (old : List ℕ) → IsCarried current [] old old
IsCarried-start current old =
    record { size = refl; at = λ i low. by (eqb (get_or old i 0) current) (get_or old i 0) }
  where
    by : (a : Bool) (n : ℕ) → n ≡ cond (a && false) (current + 1) n
    by true n = refl
    by false n = refl

pub IsCarried-more : (current : ℕ) (groups old mid new : List ℕ) (k d : ℕ) → k < length groups
    → IsCarried current (take k groups) old mid → 0 < get_or groups k d → get_or groups k d ≤ length mid
    → new ≡ set mid (get_or groups k d - 1) (cond (eqb (get_or mid (get_or groups k d - 1) 0) current) (current + 1) (get_or mid (get_or groups k d - 1) 0))
    → IsCarried current (take (k + 1) groups) old new
IsCarried-more current groups old mid new k d low h some within is =
    record {
      size = ap length is ∙ length-set mid (get_or groups k d - 1) _ ∙ h.size;
      at = λ i here. elim (cases_eq i (get_or groups k d - 1)) [
        | inl same ↦
            let j : get_or groups k d ≡ i + 1 = omega arith in
            let last = has-more groups k d (i + 1) low ∙ or_right (has (take k groups) (i + 1)) (eqb (get_or groups k d) (i + 1)) (eq-eqb (get_or groups k d) (i + 1) j) in
            ap (λ xs. get_or xs i 0) is ∙ ap (λ n. get_or (set mid (get_or groups k d - 1) (hit (get_or mid (get_or groups k d - 1) 0))) n 0) same
            ∙ get_or-set_same mid (get_or groups k d - 1) (hit (get_or mid (get_or groups k d - 1) 0)) 0 (omega arith)
            ∙ ap (λ n. hit (get_or mid n 0)) (sym same) ∙ ap hit (h.at i here)
            ∙ carried-hit (get_or old i 0) current (has (take k groups) (i + 1))
            ∙ ap (λ b. cond (eqb (get_or old i 0) current && b) (current + 1) (get_or old i 0)) (sym last)
        | inr other ↦
            let j : get_or groups k d ≢ i + 1 = λ e. other (omega arith) in
            let last = has-more groups k d (i + 1) low ∙ ap (λ b. has (take k groups) (i + 1) || b) (ne_eqb (get_or groups k d) (i + 1) j) ∙ or-false (has (take k groups) (i + 1)) in
            ap (λ xs. get_or xs i 0) is ∙ get_or-set_other mid (get_or groups k d - 1) i _ 0 other ∙ h.at i here
            ∙ ap (λ b. cond (eqb (get_or old i 0) current && b) (current + 1) (get_or old i 0)) (sym last)
      ];
    }
  where
    hit : ℕ → ℕ
    hit n = cond (eqb n current) (current + 1) n

-- one group more carries the next number
pub count-carried : (xs : List ℕ) (current i : ℕ) → i < length xs → get_or xs i 0 ≡ current
    → count_by (λ n. eqb n (current + 1)) (set xs i (current + 1)) ≡ count_by (λ n. eqb n (current + 1)) xs + 1
count-carried xs current i low h =
    let changed : count_by (λ n. eqb n (current + 1)) (set xs i (current + 1)) + cond (eqb (get_or xs i 0) (current + 1)) 1 0 ≡ count_by (λ n. eqb n (current + 1)) xs + cond (eqb (current + 1) (current + 1)) 1 0 =
    sum_by-set (λ n. cond (eqb n (current + 1)) 1 0) xs i (current + 1) 0 low in
    let one : cond {A = ℕ} (eqb (current + 1) (current + 1)) 1 0 ≡ 1 = ap (λ b. cond {A = ℕ} b 1 0) (eq-eqb (current + 1) (current + 1) refl) in
    let none : cond {A = ℕ} (eqb (get_or xs i 0) (current + 1)) 1 0 ≡ 0 = ap (λ b. cond {A = ℕ} b 1 0) (ne_eqb (get_or xs i 0) (current + 1) (λ x. absurd (omega arith))) in
    omega arith

-- at first no group carries the next number
pub count-next : (xs : List ℕ) (current : ℕ) → ((i : ℕ) → i < length xs → get_or xs i 0 ≤ current) → count_by (λ n. eqb n (current + 1)) xs ≡ 0
count-next xs current upto =
    none-count (λ n. eqb n (current + 1)) xs 0
    (λ i low. ne_eqb (get_or xs i 0) (current + 1) (λ x. let most = upto i low in absurd (omega arith)))

-- one group fewer carries the current number, where it did
pub count-freed : (xs : List ℕ) (current i before : ℕ) → i < length xs → 0 < current → before ≡ get_or xs i 0
    → count_by (λ n. eqb n current) (set xs i 0) + cond (eqb before current) 1 0 ≡ count_by (λ n. eqb n current) xs
count-freed xs current i before low some is =
    let changed : count_by (λ n. eqb n current) (set xs i 0) + cond (eqb (get_or xs i 0) current) 1 0 ≡ count_by (λ n. eqb n current) xs + cond (eqb 0 current) 1 0 =
    sum_by-set (λ n. cond (eqb n current) 1 0) xs i 0 0 low in
    let none : cond {A = ℕ} (eqb 0 current) 1 0 ≡ 0 = ap (λ b. cond {A = ℕ} b 1 0) (ne_eqb 0 current (λ x. absurd (omega arith))) in
    let same : cond {A = ℕ} (eqb before current) 1 0 ≡ cond {A = ℕ} (eqb (get_or xs i 0) current) 1 0 = ap (λ n. cond {A = ℕ} (eqb n current) 1 0) is in
    omega arith

pub IsFreed-one : (groups old new : List ℕ) (d : ℕ) → length groups ≡ 1 → IsSubset groups (all_groups (length old))
    → new ≡ set old (get_or groups 0 d - 1) 0 → IsFreed groups old new
IsFreed-one [] old new d one sub is = absurd (omega arith)
IsFreed-one (g ∷ h ∷ gs) old new d one sub is = absurd (omega arith)
IsFreed-one (g ∷ []) old new d one sub is =
    let ends = within-at (g ∷ []) (length old) 0 0 sub (omega arith) in
    let some : 0 < g = ends.0 in
    let within : g ≤ length old = ends.1 in
    record {
      size = ap length is ∙ length-set old (g - 1) 0;
      at = λ i here. elim (cases_eq i (g - 1)) [
        | inl same ↦
            ap (λ xs. get_or xs i 0) is ∙ ap (λ n. get_or (set old (g - 1) 0) n 0) same ∙ get_or-set_same old (g - 1) 0 0 (omega arith)
            ∙ sym (ap (λ b. cond b 0 (get_or old i 0)) (eq-eqb g (i + 1) (omega arith)))
        | inr other ↦
            ap (λ xs. get_or xs i 0) is ∙ get_or-set_other old (g - 1) i 0 0 other
            ∙ sym (ap (λ b. cond b 0 (get_or old i 0)) (ne_eqb g (i + 1) (λ e. other (omega arith))))
      ];
    }

pub IsFreed-none : (groups old : List ℕ) → length groups ≢ 1 → IsFreed groups old old
IsFreed-none [] old other = record { size = refl; at = λ i here. refl }
IsFreed-none (g ∷ []) old other = absurd (other refl)
IsFreed-none (g ∷ h ∷ gs) old other = record { size = refl; at = λ i here. refl }

-- what the next number says behind a conflict
carries-next : (n current : ℕ) (h : Bool) → n ≤ current → eqb (cond (eqb n current && h) (current + 1) n) (current + 1) ≡ (eqb n current && h)
carries-next n current h le = by (eqb n current && h)
  where
    by : (b : Bool) → eqb (cond b (current + 1) n) (current + 1) ≡ b
    by true = eq-eqb (current + 1) (current + 1) refl
    by false = ne_eqb n (current + 1) (λ x. absurd (omega arith))

carried-most : (n current : ℕ) (b : Bool) → n ≤ current → cond b (current + 1) n ≤ current + 1
carried-most n current true le = omega arith
carried-most n current false le = omega arith

freed-most : (n current : ℕ) (b : Bool) → n ≤ current → cond b 0 n ≤ current
freed-most n current true le = omega arith
freed-most n current false le = omega arith

-- a group is met behind a set that has it
met-push : (sets : List Found) (f : Found) (g : ℕ) (was now : Bool) → was ≡ is_met sets g → now ≡ (was || has f.set g) → now ≡ is_met (sets ++ f ∷ []) g
met-push sets f g was now h is =
    is ∙ ap (λ b. b || has f.set g) h ∙ ap (λ b. is_met sets g || b) (sym (or-false (has f.set g)))
    ∙ sym (list_any-append (λ x. has x.set g) sets (f ∷ []))

-- and stays open exactly where it was and neither half is told
open-push : (sets : List Found) (kind : Kind) (groups : List ℕ) (g : ℕ)
    → is_open (sets ++ record { kind = kind; set = groups } ∷ []) g
    ≡ (is_open sets g && not (is_alone kind groups g || lacks kind groups g))
open-push sets kind groups g =
    ap (λ b. not (b || is_lacked (sets ++ record { kind = kind; set = groups } ∷ []) g)) (list_any-append (λ f. is_alone f.kind f.set g) sets (record { kind = kind; set = groups } ∷ []))
    ∙ ap (λ b. not ((stands_alone sets g || (is_alone kind groups g || false)) || b)) (list_any-append (λ f. lacks f.kind f.set g) sets (record { kind = kind; set = groups } ∷ []))
    ∙ by (stands_alone sets g) (is_lacked sets g) (is_alone kind groups g) (lacks kind groups g)
  where
    by : (a l x y : Bool) → not ((a || (x || false)) || (l || (y || false))) ≡ (not (a || l) && not (x || y))
    by true l x y = refl
    by false true true y = refl
    by false true false y = refl
    by false false true y = refl
    by false false false true = refl
    by false false false false = refl

pub tally-conflict : (groups : ℕ) (sets : List Found) (set : List ℕ) (t new : Tally) → IsTally groups sets t
    → IsMet set t.met.items new.met.items → new.unmet ≡ count_by not new.met.items
    → IsCarried t.current set t.carried.items new.carried.items → new.current ≡ t.current + 1
    → new.carriers ≡ count_by (λ n. eqb n (t.current + 1)) new.carried.items
    → IsTally groups (sets ++ record { kind = Conflict; set = set } ∷ []) new
tally-conflict groups sets set t new h met unmet carried current carriers =
    record {
      all_met = met.size ∙ h.all_met;
      all_carried = carried.size ∙ h.all_carried;
      met = λ i low.
          met-push sets (record { kind = Conflict; set = set }) (i + 1) (get_or t.met.items i true) (get_or new.met.items i true) (h.met i low)
          (met.at i (subst (λ n. i < n) (sym h.all_met) low));
      carried = λ i low.
          let n : ℕ = get_or t.carried.items i 0 in
          ap (λ c. eqb (get_or new.carried.items i 0) c) current
          ∙ ap (λ x. eqb x (t.current + 1)) (carried.at i (subst (λ n. i < n) (sym h.all_carried) low))
          ∙ carries-next n t.current (has set (i + 1)) (h.upto i low) ∙ ap (λ b. b && has set (i + 1)) (h.carried i low)
          ∙ sym (open-push sets Conflict set (i + 1) ∙ ap (λ b. is_open sets (i + 1) && b) (twice (has set (i + 1))));
      upto = λ i low.
          subst (λ c. get_or new.carried.items i 0 ≤ c) (sym current)
          (subst (λ n. n ≤ t.current + 1) (sym (carried.at i (subst (λ n. i < n) (sym h.all_carried) low)))
          (carried-most (get_or t.carried.items i 0) t.current (eqb (get_or t.carried.items i 0) t.current && has set (i + 1)) (h.upto i low)));
      some = let was = h.some in omega arith;
      unmet = unmet;
      carriers = carriers ∙ ap (λ c. count_by (λ n. eqb n c) new.carried.items) (sym current);
    }
  where
    twice : (b : Bool) → not (not b) ≡ b
    twice true = refl
    twice false = refl

pub tally-correction : (groups : ℕ) (sets : List Found) (set : List ℕ) (t new : Tally) → IsTally groups sets t
    → IsMet set t.met.items new.met.items → new.unmet ≡ count_by not new.met.items
    → IsFreed set t.carried.items new.carried.items → new.current ≡ t.current
    → new.carriers ≡ count_by (λ n. eqb n t.current) new.carried.items
    → IsTally groups (sets ++ record { kind = Correction; set = set } ∷ []) new
tally-correction groups sets set t new h met unmet freed current carriers =
    record {
      all_met = met.size ∙ h.all_met;
      all_carried = freed.size ∙ h.all_carried;
      met = λ i low.
          met-push sets (record { kind = Correction; set = set }) (i + 1) (get_or t.met.items i true) (get_or new.met.items i true) (h.met i low)
          (met.at i (subst (λ n. i < n) (sym h.all_met) low));
      carried = λ i low.
          ap (λ c. eqb (get_or new.carried.items i 0) c) current
          ∙ ap (λ x. eqb x t.current) (freed.at i (subst (λ n. i < n) (sym h.all_carried) low))
          ∙ left (is_alone Correction set (i + 1)) (get_or t.carried.items i 0) ∙ ap (λ b. b && not (is_alone Correction set (i + 1) || false)) (h.carried i low)
          ∙ sym (open-push sets Correction set (i + 1));
      upto = λ i low.
          subst (λ c. get_or new.carried.items i 0 ≤ c) (sym current)
          (subst (λ n. n ≤ t.current) (sym (freed.at i (subst (λ n. i < n) (sym h.all_carried) low)))
          (freed-most (get_or t.carried.items i 0) t.current (is_alone Correction set (i + 1)) (h.upto i low)));
      some = let was = h.some in omega arith;
      unmet = unmet;
      carriers = carriers ∙ ap (λ c. count_by (λ n. eqb n c) new.carried.items) (sym current);
    }
  where
    left : (x : Bool) (n : ℕ) → eqb (cond x 0 n) t.current ≡ (eqb n t.current && not (x || false))
    left true n =
        let some = h.some in
        ne_eqb 0 t.current (λ e. absurd (omega arith)) ∙ sym (and-no (eqb n t.current))
      where
        and-no : (b : Bool) → (b && false) ≡ false
        and-no true = refl
        and-no false = refl
    left false n = sym (and-yes (eqb n t.current))
      where
        and-yes : (b : Bool) → (b && true) ≡ b
        and-yes true = refl
        and-yes false = refl

-- before any set is found each group is unmet and open
pub tally-start : (groups : ℕ) (t : Tally) → t.met.items ≡ replicate groups false → t.carried.items ≡ replicate groups 1
    → t.current ≡ 1 → t.unmet ≡ groups → t.carriers ≡ groups → IsTally groups [] t
tally-start groups t met carried current unmet carriers =
    record {
      all_met = ap length met ∙ length-replicate groups false;
      all_carried = ap length carried ∙ length-replicate groups 1;
      met = λ i low. ap (λ xs. get_or xs i true) met ∙ get_or-replicate groups i false true low;
      carried = λ i low. ap (λ c. eqb (get_or t.carried.items i 0) c) current ∙ ap (λ x. eqb x 1) (ap (λ xs. get_or xs i 0) carried ∙ get_or-replicate groups i 1 0 low);
      upto = λ i low.
          let one = ap (λ xs. get_or xs i 0) carried ∙ get_or-replicate groups i 1 0 low in omega arith;
      some = omega arith;
      unmet = unmet ∙ sym (ap (count_by not) met ∙ sum_by-replicate (λ b. cond (not b) 1 0) groups false ∙ times groups);
      carriers = carriers ∙ sym (ap (λ c. count_by (λ n. eqb n c) t.carried.items) current ∙ ap (count_by (λ n. eqb n 1)) carried ∙ sum_by-replicate (λ n. cond (eqb n 1) 1 0) groups 1 ∙ times groups);
    }
  where
    times : (n : ℕ) → n * 1 ≡ n
    times n = omega arith
