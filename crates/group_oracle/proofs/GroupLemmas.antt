-- The groups of literals that switch groups off, sorted and each taken once.
use Rattle.std.proofs.Common.{◌≡◌, ◌⊎◌, ℕ, zero, suc, ◌+◌, ◌-◌, ◌<◌, ◌≤◌, true, false, ◌||◌, eqb, List, [], ◌∷◌, ◌++◌, map, length, get_or, take, refl, sym, ◌∙◌, ap, subst, inl, inr, arith}
use Rattle.std.specs.Prelude.{ℤ, pos, neg_ℤ, nat_abs, All}
use Rattle.std.specs.List.Sorted.{IsNonDecreasingBy, IsPermutation}
use Rattle.std.proofs.lemmas.Bool.{or_left, or_right, cases_Bool, eqb-true, eq-eqb}
use Rattle.std.proofs.Math.Bool.{or-false}
use Rattle.std.proofs.lemmas.List.{take_all, map-append}
use Rattle.std.proofs.Math.Seq.{take-suc, take-length}
use Rattle.std.proofs.lemmas.List.Folds.{list_any-append, list_any_more}
use Rattle.std.proofs.lemmas.List.Sorted.{list_any-IsPermutation}
use Rattle.sat_base.specs.Members.{In}
use Rattle.sat_base.specs.Literals.{var_of}
use Rattle.gm_base.specs.Sets.{has, AscendsAbove, IsGroupSet}
use Rattle.sat_base.proofs.Members.{In-map, In-from_map, any_at, any_from}
use Rattle.sat_base.proofs.DatabaseLemmas.{get_in}
use Rattle.group_oracle.specs.Selectors.{off, AreOff, AreGroupsOf, IsSetOf}

pub in_has : (set : List ℕ) (g : ℕ) → In g set → has set g ≡ true
in_has set g i = any_at (λ h. eqb h g) set g i (eq-eqb g g refl)

pub has_in : (set : List ℕ) (g : ℕ) → has set g ≡ true → In g set
has_in set g h = let (x, i, e) = any_from (λ h. eqb h g) set h in subst (λ k. In k set) (eqb-true x g e) i

-- numbers in order

pub ascends_push : (low g : ℕ) (xs : List ℕ) → AscendsAbove low xs → low < g → ((h : ℕ) → has xs h ≡ true → h < g) → AscendsAbove low (xs ++ g ∷ [])
ascends_push low g [] h lt below = (lt, tt)
ascends_push low g (x ∷ xs) h lt below =
    (h.0, ascends_push x g xs h.1 (below x (or_left (eqb x x) (has xs x) (eq-eqb x x refl))) (λ k i. below k (or_right (eqb x k) (has xs k) i)))

-- the set of the first numbers, so many, of which the last one is the greatest; 0 where there is none
pub record IsSetSoFar (groups : List ℕ) (count : ℕ) (set : List ℕ) (last : ℕ) : Type 0 where
  pub is_set : IsGroupSet set
  pub below : (g : ℕ) → has set g ≡ true → g ≤ last
  pub same : (g : ℕ) → has set g ≡ has (take count groups) g
  pub met : 0 < last → has set last ≡ true
  pub ahead : (at d : ℕ) → count ≤ at → at < length groups → last ≤ get_or groups at d

pub so_far_start : (groups set : List ℕ) → set ≡ [] → IsSetSoFar groups 0 set 0
so_far_start groups set none =
    subst (λ s. IsSetSoFar groups 0 s 0) (sym none)
    (record { is_set = tt; below = λ g h. absurd (cc); same = λ g. refl; met = λ lt. absurd (omega arith); ahead = λ at d le lt. omega arith })

has-push : (xs : List ℕ) (g h : ℕ) → has (xs ++ g ∷ []) h ≡ (has xs h || eqb g h)
has-push xs g h = list_any-append (λ k. eqb k h) xs (g ∷ []) ∙ ap (λ b. has xs h || b) (or-false (eqb g h))

pub so_far_push : (groups old new : List ℕ) (count last g d : ℕ) → IsSetSoFar groups count old last → IsNonDecreasingBy (λ k. k) groups → count < length groups → g ≡ get_or groups count d → last < g
    → new ≡ old ++ g ∷ [] → IsSetSoFar groups (count + 1) new g
so_far_push groups old new count last g d h up lt is above pushed =
    subst (λ s. IsSetSoFar groups (count + 1) s g) (sym pushed)
    (record {
      is_set = ascends_push 0 g old h.is_set (omega arith) (λ k i. let low = h.below k i in omega arith);
      below = λ k i. below k (cases_Bool (has old k)) i;
      same = λ k.
          has-push old g k ∙ ap (λ b. b || eqb g k) (h.same k) ∙ ap (λ n. has (take count groups) k || eqb n k) is
          ∙ sym (list_any_more (λ m. eqb m k) groups count d lt);
      met = λ some. has-push old g g ∙ or_right (has old g) (eqb g g) (eq-eqb g g refl);
      ahead = λ at e le within. let rises = up count at d (omega arith) within in let same : get_or groups at e ≡ get_or groups at d = get_same groups at e d within in omega arith;
    })
  where
    below : (k : ℕ) → (has old k ≡ true) ⊎ (has old k ≡ false) → has (old ++ g ∷ []) k ≡ true → k ≤ g
    below k (inl i) j = let low = h.below k i in omega arith
    below k (inr none) j =
        let same : g ≡ k = eqb-true g k (sym (ap (λ b. b || eqb g k) none) ∙ sym (has-push old g k) ∙ j) in omega arith

    get_same : (xs : List ℕ) (i e d : ℕ) → i < length xs → get_or xs i e ≡ get_or xs i d
    get_same [] i e d h = absurd (omega arith)
    get_same (x ∷ xs) zero e d h = refl
    get_same (x ∷ xs) (suc i) e d h = get_same xs i e d (omega arith)

pub so_far_skip : (groups set : List ℕ) (count last g d : ℕ) → IsSetSoFar groups count set last → All (λ k. 0 < k) groups → count < length groups → g ≡ get_or groups count d → g ≤ last
    → IsSetSoFar groups (count + 1) set last
so_far_skip groups set count last g d h some lt is below =
    let low : 0 < get_or groups count d = some count d lt in
    let high : last ≤ get_or groups count d = h.ahead count d (omega arith) lt in
    let same_last : last ≡ get_or groups count d = omega arith in
    record {
      is_set = h.is_set;
      below = h.below;
      same = λ k. same k (get_or groups count d) same_last (h.met (omega arith)) (cases_Bool (eqb (get_or groups count d) k)) ∙ sym (list_any_more (λ m. eqb m k) groups count d lt);
      met = h.met;
      ahead = λ at e le within. h.ahead at e (omega arith) within;
    }
  where
    same : (k n : ℕ) → last ≡ n → has set last ≡ true → (eqb n k ≡ true) ⊎ (eqb n k ≡ false) → has set k ≡ (has (take count groups) k || eqb n k)
    same k n is_last found (inl here) =
        let is : last ≡ k = is_last ∙ eqb-true n k here in
        sym (ap (has set) is) ∙ found ∙ sym (or_right (has (take count groups) k) (eqb n k) here)
    same k n is_last found (inr other) = h.same k ∙ sym (or-false (has (take count groups) k)) ∙ sym (ap (λ b. has (take count groups) k || b) other)

pub so_far_end : (groups set : List ℕ) (count last : ℕ) → IsSetSoFar groups count set last → length groups ≤ count → IsSetOf groups set
so_far_end groups set count last h past = record { is_set = h.is_set; same = λ g. h.same g ∙ ap (λ xs. has xs g) (take_all count groups past) }

-- the group of a literal

pub abs_neg : (n : ℕ) → nat_abs (neg_ℤ (pos n)) ≡ n
abs_neg zero = refl
abs_neg (suc n) = refl

abbrev pub group_of : ℕ → ℤ → ℕ
group_of vars l = var_of l - vars

pub group_off : (vars g : ℕ) → group_of vars (off vars g) ≡ g
group_off vars g = let same = abs_neg (vars + g) in omega arith

-- the literal at a place is no lower than the variables
pub off_high : (vars at : ℕ) (lits : List ℤ) (l d : ℤ) → AreOff vars lits → at < length lits → l ≡ get_or lits at d → vars ≤ var_of l
off_high vars at lits l d h lt is =
    let o = h l (subst (λ k. In k lits) (sym is) (get_in lits at d lt)) in
    let same : var_of l ≡ vars + o.group = ap var_of o.is ∙ abs_neg (vars + o.group) in
    omega arith

off_in : (vars g : ℕ) (lits : List ℤ) → AreOff vars lits → In g (map (group_of vars) lits) → In (off vars g) lits
off_in vars g lits h i =
    let (l, j, e) = In-from_map (group_of vars) g lits i in
    let o = h l j in
    let same : g ≡ o.group = e ∙ ap (group_of vars) o.is ∙ group_off vars o.group in
    subst (λ k. In k lits) (o.is ∙ sym (ap (off vars) same)) j

pub numbers_some : (vars : ℕ) (lits : List ℤ) (groups : List ℕ) → AreOff vars lits → groups ≡ map (group_of vars) lits → All (λ g. 0 < g) groups
numbers_some vars lits groups h is at d lt =
    let i = subst (In (get_or groups at d)) is (get_in groups at d lt) in
    let (l, j, e) = In-from_map (group_of vars) (get_or groups at d) lits i in
    let o = h l j in
    let same : get_or groups at d ≡ o.group = e ∙ ap (group_of vars) o.is ∙ group_off vars o.group in
    let some = o.not_background in
    omega arith

pub groups_from : (vars : ℕ) (lits : List ℤ) (groups sorted set : List ℕ) → AreOff vars lits → groups ≡ map (group_of vars) lits → IsPermutation groups sorted → IsSetOf sorted set → AreGroupsOf vars lits set
groups_from vars lits groups sorted set h is moved s =
    let same : (g : ℕ) → has set g ≡ has (map (group_of vars) lits) g =
    λ g. s.same g ∙ sym (list_any-IsPermutation (λ k. eqb k g) groups sorted moved) ∙ ap (λ xs. has xs g) is in
    record {
      is_set = s.is_set;
      groups = λ g. (
        (λ e. off_in vars g lits h (has_in (map (group_of vars) lits) g (sym (same g) ∙ e))),
        (λ i. same g ∙ in_has (map (group_of vars) lits) g (subst (λ k. In k (map (group_of vars) lits)) (group_off vars g) (In-map (group_of vars) (off vars g) lits i))),
      );
    }

-- one more of a list has its value
pub mapped_more : {A B : Type 0} (f : A → B) (xs : List A) (i : ℕ) (d : A) (ys new : List B) (y : B) → i < length xs → ys ≡ map f (take i xs) → new ≡ ys ++ y ∷ [] → y ≡ f (get_or xs i d)
    → new ≡ map f (take (i + 1) xs)
mapped_more f xs i d ys new y low so_far pushed is =
    let more : suc i ≡ i + 1 = omega arith in
    pushed ∙ ap (λ l. l ++ y ∷ []) so_far ∙ ap (λ z. map f (take i xs) ++ z ∷ []) is
    ∙ sym (map-append f (take i xs) (get_or xs i d ∷ [])) ∙ ap (map f) (sym (take-suc xs i d low)) ∙ ap (λ n. map f (take n xs)) more

-- all of them have
pub mapped_all : {A B : Type 0} (f : A → B) (xs : List A) (i : ℕ) (ys : List B) → ys ≡ map f (take i xs) → i ≡ length xs → ys ≡ map f xs
mapped_all f xs i ys so_far all = so_far ∙ ap (λ n. map f (take n xs)) all ∙ ap (map f) (take-length xs)
