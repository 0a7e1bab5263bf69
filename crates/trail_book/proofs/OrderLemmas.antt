-- The order of decisions as one number, and what is known of variables without value.
use Rattle.std.proofs.Common.{◌≡◌, ◌≢◌, ℕ, ◌+◌, ◌-◌, ◌*◌, ◌<◌, ◌≤◌, List, length, set, suc, refl, sym, ap, subst, inl, inr, arith, length-set, get_or-set_same, get_or-set_other}
use Rattle.std.specs.Prelude.{ℤ, pos, negsuc, slice_index_or}
use Rattle.std.proofs.lemmas.Bool.{cases_lt}
use Rattle.std.proofs.Math.Nat.{mul-le-mul_left}
use Rattle.sat_base.specs.Literals.{var_of, IsLiteral}
use Rattle.sat_base.specs.Units.{HasValue, IsValue, IsUnset}
use Rattle.trail_book.specs.declared.value.Value.{Value}
use Rattle.trail_book.specs.declared.value.Value.TheVariants.{Unset, True, False}
use Rattle.trail_book.specs.Values.{truth_of, AreValues}
use Rattle.trail_book.specs.Order.{Ranking, activity_of, position_of, ComesFirst, rank, grown}
use Rattle.trail_book.specs.Heap.{Heap, IsHeap}

pub position_in_range : (start index vars : ℕ) → start ≤ vars → index < vars → position_of start index vars < vars
position_in_range start index vars low h = grind (arith, low, h)

-- a greater first digit decides
digits : (a b x y n : ℕ) → b < a → x < n → y < n → b * n + y < a * n + x
digits a b x y n more hx hy =
    let times = mul-le-mul_left n more in
    grind (arith, times, hx, hy)

pub rank_by_activity : (r : Ranking) (one other : ℕ) → r.start ≤ length r.activities → one < length r.activities → other < length r.activities
    → activity_of r other < activity_of r one → rank r other < rank r one
unfolding rank
rank_by_activity r one other low a b more =
    let n = length r.activities in
    digits (activity_of r one) (activity_of r other) (n - 1 - position_of r.start one n) (n - 1 - position_of r.start other n) n more (omega (arith, a)) (omega (arith, b))

pub rank_by_position : (r : Ranking) (one other : ℕ) → activity_of r one ≡ activity_of r other
    → position_of r.start one (length r.activities) ≤ position_of r.start other (length r.activities) → rank r other ≤ rank r one
unfolding rank
rank_by_position r one other same le =
    let n = length r.activities in
    let times : activity_of r one * n ≡ activity_of r other * n = ap (λ (a : ℕ). a * n) same in
    omega (arith, times, le)

pub rank_by_position_strict : (r : Ranking) (one other : ℕ) → r.start ≤ length r.activities → one < length r.activities → other < length r.activities
    → activity_of r one ≡ activity_of r other
    → position_of r.start one (length r.activities) < position_of r.start other (length r.activities) → rank r other < rank r one
unfolding rank
rank_by_position_strict r one other low a b same lt =
    let n = length r.activities in
    let times : activity_of r one * n ≡ activity_of r other * n = ap (λ (a : ℕ). a * n) same in
    let within : position_of r.start other n < n = position_in_range r.start other n low b in
    omega (arith, times, lt, within)

-- and back: of the greater number, the variable comes first
pub comes_first : (r : Ranking) (one other : ℕ) → r.start ≤ length r.activities → one < length r.activities → other < length r.activities
    → rank r other ≤ rank r one → ComesFirst r one other
comes_first r one other low a b le =
    let n = length r.activities in
    elim (cases_lt (activity_of r other) (activity_of r one)) [
      | inl more ↦ inl more
      | inr less ↦ elim (cases_lt (activity_of r one) (activity_of r other)) [
        | inl lt ↦ absurd (omega (arith, rank_by_activity r other one low b a lt, le))
        | inr ge ↦
            let same : activity_of r one ≡ activity_of r other = omega (arith, less, ge) in
            elim (cases_lt (position_of r.start other n) (position_of r.start one n)) [
              | inl before ↦ absurd (omega (arith, rank_by_position_strict r other one low b a (sym same) before, le))
              | inr after ↦ inr (same, after)
            ]
      ]
    ]

pub bump_raises : (r : Ranking) (index other : ℕ) → index < length r.activities → other ≢ index
    → rank (record r { activities = set r.activities index (activity_of r index + r.increment) }) other ≡ rank r other
unfolding rank
bump_raises r index other h apart =
    let len : length (set r.activities index (activity_of r index + r.increment)) ≡ length r.activities = length-set r.activities index (activity_of r index + r.increment) in
    let act : activity_of (record r { activities = set r.activities index (activity_of r index + r.increment) }) other ≡ activity_of r other =
    get_or-set_other r.activities index other (activity_of r index + r.increment) 0 apart in
    cc

pub bump_lifts : (r : Ranking) (index : ℕ) → index < length r.activities
    → rank r index ≤ rank (record r { activities = set r.activities index (activity_of r index + r.increment) }) index
unfolding rank
bump_lifts r index h =
    let new : Ranking = record r { activities = set r.activities index (activity_of r index + r.increment) } in
    let n = length r.activities in
    let len : length new.activities ≡ n = length-set r.activities index (activity_of r index + r.increment) in
    let act : activity_of new index ≡ activity_of r index + r.increment = get_or-set_same r.activities index (activity_of r index + r.increment) 0 h in
    let times : activity_of r index * n ≤ (activity_of r index + r.increment) * n = grind arith in
    let is : activity_of new index * length new.activities ≡ (activity_of r index + r.increment) * n = cc in
    let rest : length new.activities - 1 - position_of r.start index (length new.activities) ≡ n - 1 - position_of r.start index n =
    ap (λ (m : ℕ). m - 1 - position_of r.start index m) len in
    omega (arith, times, is, rest)

is_set : (trues : List ℤ) (l : ℤ) (v : Value) → v ≢ Unset → IsValue trues l (truth_of v) → HasValue trues l
is_set trues l Unset has h = absurd (has refl)
is_set trues l True has h = inl h
is_set trues l False has h = inr h

-- a variable whose value is unset has none
pub unset_at : (vars : ℕ) (values : List Value) (trues : List ℤ) (index : ℕ) → AreValues vars values trues → index < vars → slice_index_or values index Unset ≡ Unset
    → IsUnset trues (pos (index + 1))
unset_at vars values trues index are h gone = subst (λ (v : Value). IsValue trues (pos (index + 1)) (truth_of v)) gone (are index h)

-- and the other way round
pub unset_value : (vars : ℕ) (values : List Value) (trues : List ℤ) (index : ℕ) → AreValues vars values trues → index < vars → IsUnset trues (pos (index + 1))
    → slice_index_or values index Unset ≡ Unset
unset_value vars values trues index are h u = by (slice_index_or values index Unset) (are index h)
  where
    by : (v : Value) → IsValue trues (pos (index + 1)) (truth_of v) → v ≡ Unset
    by Unset k = refl
    by True k = absurd (u.not_true k)
    by False k = absurd (u.not_false k)

-- a literal has a value where its variable has one, and none where it has none
pub value_of_var : (trues : List ℤ) (l : ℤ) (index : ℕ) → var_of l ≡ index + 1 → HasValue trues (pos (index + 1)) → HasValue trues l
value_of_var trues (pos m) index same h = subst (λ (k : ℕ). HasValue trues (pos k)) (sym same) h
value_of_var trues (negsuc m) index same h = elim (subst (λ (k : ℕ). HasValue trues (pos k)) (sym same) h) [ inl yes_true ↦ inr yes_true | inr is_false ↦ inl is_false ]

pub unset_var : (trues : List ℤ) (l : ℤ) (index : ℕ) → var_of l ≡ index + 1 → IsUnset trues l → IsUnset trues (pos (index + 1))
unset_var trues (pos m) index same u = subst (λ (k : ℕ). IsUnset trues (pos k)) same u
unset_var trues (negsuc m) index same u =
    subst (λ (k : ℕ). IsUnset trues (pos k)) same (record { not_true = λ i. u.not_false i; not_false = λ i. u.not_true i })

pub unset_literal : (trues : List ℤ) (l : ℤ) (index : ℕ) → var_of l ≡ index + 1 → IsUnset trues (pos (index + 1)) → IsUnset trues l
unset_literal trues (pos m) index same u = subst (λ (k : ℕ). IsUnset trues (pos k)) (sym same) u
unset_literal trues (negsuc m) index same u =
    let v : IsUnset trues (pos (suc m)) = subst (λ (k : ℕ). IsUnset trues (pos k)) (sym same) u in
    record { not_true = λ i. v.not_false i; not_false = λ i. v.not_true i }

-- where a value is not unset, the variable's literals have one
pub has_value : (vars : ℕ) (values : List Value) (trues : List ℤ) → AreValues vars values trues → (l : ℤ) → IsLiteral vars l
    → slice_index_or values (var_of l - 1) Unset ≢ Unset → HasValue trues l
has_value vars values trues are l is_lit set =
    let index = var_of l - 1 in
    let within : index < vars = omega (arith, is_lit.not_zero, is_lit.in_range) in
    value_of_var trues l index (omega (arith, is_lit.not_zero)) (is_set trues (pos (index + 1)) (slice_index_or values index Unset) set (are index within))

-- the order does not depend on the increment
pub heap_grown : (r : Ranking) (heap : Heap) → IsHeap (rank r) heap → IsHeap (rank (grown r)) heap
unfolding rank
heap_grown r heap m = m
