-- Variables that wait for a decision, and the literals as they were last held, as variables get and lose their values.
use Rattle.std.proofs.Common.{◌≡◌, ◌≢◌, ◌⊎◌, ℕ, ◌+◌, ◌-◌, ◌<◌, zero, suc, Bool, true, false, List, [], ◌∷◌, ◌++◌, append_assoc, replicate, length, set, refl, sym, ◌∙◌, ap, subst, inl, inr, arith, get_or-set_same, get_or-set_other}
use Rattle.std.specs.Prelude.{ℤ, pos, negsuc, slice_index_or}
use Rattle.std.proofs.lemmas.Bool.{cases_eq, false≢true}
use Rattle.std.proofs.lemmas.List.{get_or-replicate}
use Rattle.sat_base.specs.Literals.{var_of, IsLiteral}
use Rattle.sat_base.specs.Units.{IsUnset, IsValue}
use Rattle.trail_book.specs.declared.value.Value.{Value}
use Rattle.trail_book.specs.declared.value.Value.TheVariants.{Unset}
use Rattle.trail_book.specs.Values.{value_by, truth_of, AreValues}
use Rattle.trail_book.specs.Heap.{Heap, Holds, Admits, AdmitsSame}
use Rattle.trail_book.specs.Tables.{AreAdmitted, AreWaiting, AreOfVars, holding}
use Rattle.trail_book.specs.declared.entry.Entry.{Entry}
use Rattle.trail_book.specs.Trail.{trues, IsTrail, positive_from}
use Rattle.trail_book.proofs.PlaceLemmas.{unset_differs}

by_is_set : (lit : ℤ) → value_by lit ≢ Unset
by_is_set (pos n) = λ same. cc
by_is_set (negsuc n) = λ same. cc

-- with one value more
pub waiting_push : (values : List Value) (touched : List Bool) (heap : Heap) (lit : ℤ) (index : ℕ) → index < length values
    → AreWaiting values touched heap → AreWaiting (set values index (value_by lit)) touched heap
waiting_push values touched heap lit index within waits = λ i t gone.
    elim (cases_eq i index) [
      | inl same ↦
          absurd (by_is_set lit
          (sym (get_or-set_same values index (value_by lit) Unset within) ∙ ap (λ (k : ℕ). slice_index_or (set values index (value_by lit)) k Unset) (sym same) ∙ gone))
      | inr other ↦ waits i t (sym (get_or-set_other values index i (value_by lit) Unset other) ∙ gone)
    ]

-- with one value less, whose variable the heap takes in if it admits it
pub waiting_undo : (values : List Value) (touched : List Bool) (old new : Heap) (index : ℕ) → (Admits old index → Holds new index)
    → ((item : ℕ) → Holds old item → Holds new item) → AreAdmitted touched old → AreWaiting values touched old
    → AreWaiting (set values index Unset) touched new
waiting_undo values touched old new index taken more may waits = λ i t gone.
    elim (cases_eq i index) [
      | inl same ↦ subst (Holds new) (sym same) (taken (subst (Admits old) same ((may i).1 t)))
      | inr other ↦ more i (waits i t (sym (get_or-set_other values index i Unset Unset other) ∙ gone))
    ]

-- the heap lets one go that has a value
pub waiting_drop : (values : List Value) (touched : List Bool) (old new : Heap) (index : ℕ) → slice_index_or values index Unset ≢ Unset
    → ((item : ℕ) → Holds old item → item ≢ index → Holds new item) → AreWaiting values touched old → AreWaiting values touched new
waiting_drop values touched old new index has less waits = λ i t gone.
    less i (waits i t gone) (λ same. has (ap (λ (k : ℕ). slice_index_or values k Unset) (sym same) ∙ gone))

-- another heap that holds the same and more
pub waiting_more : (values : List Value) (touched : List Bool) (old new : Heap) → ((item : ℕ) → Holds old item → Holds new item)
    → AreWaiting values touched old → AreWaiting values touched new
waiting_more values touched old new more waits = λ i t gone. more i (waits i t gone)

-- a heap that holds all that it may hold
pub waiting_all : (values : List Value) (touched : List Bool) (old new : Heap) → ((item : ℕ) → Admits old item → Holds new item)
    → AreAdmitted touched old → AreWaiting values touched new
waiting_all values touched old new all may = λ i t gone. all i ((may i).1 t)

-- a variable is touched, and the heap holds it
pub waiting_touch : (values : List Value) (touched : List Bool) (old new : Heap) (index : ℕ) → Holds new index
    → ((item : ℕ) → Holds old item → Holds new item) → AreWaiting values touched old → AreWaiting values (set touched index true) new
waiting_touch values touched old new index taken more waits = λ i t gone.
    elim (cases_eq i index) [
      | inl same ↦ subst (Holds new) (sym same) taken
      | inr other ↦ more i (waits i (sym (get_or-set_other touched index i true false other) ∙ t) gone)
    ]

-- and admits it besides
pub admitted_touch : (touched : List Bool) (old new : Heap) (index : ℕ) → index < length touched → Admits new index
    → ((item : ℕ) → Admits old item → Admits new item) → ((item : ℕ) → Admits new item → (item ≡ index) ⊎ Admits old item)
    → AreAdmitted touched old → AreAdmitted (set touched index true) new
admitted_touch touched old new index within taken more only may =
    λ i. (λ has. elim (cases_eq i index) [ inl same ↦ here i same | inr other ↦ there i other (only i has) ], λ t. back i t)
  where
    here : (i : ℕ) → i ≡ index → slice_index_or (set touched index true) i false ≡ true
    here i same = ap (λ (k : ℕ). slice_index_or (set touched index true) k false) same ∙ get_or-set_same touched index true false within

    there : (i : ℕ) → i ≢ index → (i ≡ index) ⊎ Admits old i → slice_index_or (set touched index true) i false ≡ true
    there i other (inl same) = absurd (other same)
    there i other (inr before) = get_or-set_other touched index i true false other ∙ (may i).0 before

    back : (i : ℕ) → slice_index_or (set touched index true) i false ≡ true → Admits new i
    back i t = elim (cases_eq i index) [
      | inl same ↦ subst (Admits new) (sym same) taken
      | inr other ↦ more i ((may i).1 (sym (get_or-set_other touched index i true false other) ∙ t))
    ]

-- another heap that admits the same
pub admitted_same : (touched : List Bool) (old new : Heap) → AdmitsSame old new → AreAdmitted touched old → AreAdmitted touched new
admitted_same touched old new same may = λ i. (λ has. (may i).0 ((same i).0 has), λ t. (same i).1 ((may i).1 t))

-- at first no variable is touched
pub admitted_new : (vars : ℕ) (touched : List Bool) (heap : Heap) → heap.admitted ≡ 0 → touched ≡ replicate vars false → AreAdmitted touched heap
admitted_new vars touched heap none is = λ i. (λ has. absurd (omega (arith, has.1, none)), λ t. absurd (false≢true (sym (not_touched i) ∙ t)))
  where
    replicated : (n i : ℕ) → slice_index_or (replicate n false) i false ≡ false
    replicated zero i = refl
    replicated (suc n) zero = refl
    replicated (suc n) (suc i) = replicated n i

    not_touched : (i : ℕ) → slice_index_or touched i false ≡ false
    not_touched i = ap (λ (bs : List Bool). slice_index_or bs i false) is ∙ replicated vars i

-- the variables are touched one by one
pub touched_step : (index vars : ℕ) → index < vars
    → set (replicate index true ++ replicate (vars - index) false) index true ≡ replicate (index + 1) true ++ replicate (vars - (index + 1)) false
touched_step index vars h =
    let left : vars - index ≡ suc (vars - (index + 1)) = omega (arith, h) in
    let more : suc index ≡ index + 1 = omega arith in
    ap (λ (n : ℕ). set (replicate index true ++ replicate n false) index true) left
    ∙ next index (vars - (index + 1))
    ∙ ap (λ (n : ℕ). replicate n true ++ replicate (vars - (index + 1)) false) more
  where
    next : (index rest : ℕ) → set (replicate index true ++ replicate (suc rest) false) index true ≡ replicate (suc index) true ++ replicate rest false
    next zero rest = refl
    next (suc index) rest = ap (λ (bs : List Bool). true ∷ bs) (next index rest)

-- the literal of a variable takes the place of the one before
pub held_note : (vars : ℕ) (held : List ℤ) (lit : ℤ) → IsLiteral vars lit → length held ≡ vars → AreOfVars vars held
    → AreOfVars vars (set held (var_of lit - 1) lit)
held_note vars held lit is len are = λ i h. elim (cases_eq i (var_of lit - 1)) [
  | inl same ↦
      ap (λ (k : ℕ). var_of (slice_index_or (set held (var_of lit - 1) lit) k (pos 0))) same
      ∙ ap var_of (get_or-set_same held (var_of lit - 1) lit (pos 0) (omega (arith, len, is.not_zero, is.in_range)))
      ∙ omega (arith, same, is.not_zero)
  | inr other ↦ ap var_of (get_or-set_other held (var_of lit - 1) i lit (pos 0) other) ∙ are i h
]

set_apart : (held : List ℤ) (i j : ℕ) (a b : ℤ) → i ≢ j → set (set held i a) j b ≡ set (set held j b) i a
set_apart [] i j a b apart = refl
set_apart (x ∷ held) zero zero a b apart = absurd (apart refl)
set_apart (x ∷ held) zero (suc j) a b apart = refl
set_apart (x ∷ held) (suc i) zero a b apart = refl
set_apart (x ∷ held) (suc i) (suc j) a b apart = ap (λ (low : List ℤ). x ∷ low) (set_apart held i j a b (λ same. apart (ap suc same)))

-- a literal that is noted as it is taken back counted as held before
pub holding_note : (vars : ℕ) (held : List ℤ) (es : List Entry) (lit : ℤ) → IsTrail vars es → IsUnset (trues es) lit → IsLiteral vars lit
    → holding (set held (var_of lit - 1) lit) (trues es) ≡ set (holding held (trues es)) (var_of lit - 1) lit
holding_note vars held [] lit t u is = refl
holding_note vars held (e ∷ es) lit t u is =
    let differ : var_of lit - 1 ≢ var_of e.lit - 1 =
    λ same. unset_differs (trues (e ∷ es)) lit e.lit u (inl refl) (omega (arith, same, t.1.not_zero, is.not_zero)) in
    let rest = holding_note vars held es lit t.2 (record { not_true = λ i. u.not_true (inr i); not_false = λ i. u.not_false (inr i) }) is in
    ap (λ (low : List ℤ). set low (var_of e.lit - 1) e.lit) rest ∙ set_apart (holding held (trues es)) (var_of lit - 1) (var_of e.lit - 1) lit e.lit differ

-- a variable without value is as it was noted
pub holding_unset : (vars : ℕ) (held : List ℤ) (es : List Entry) (index : ℕ) → IsTrail vars es → IsUnset (trues es) (pos (index + 1))
    → slice_index_or (holding held (trues es)) index (pos 0) ≡ slice_index_or held index (pos 0)
holding_unset vars held [] index t u = refl
holding_unset vars held (e ∷ es) index t u =
    let differ : index ≢ var_of e.lit - 1 =
    λ same. unset_differs (trues (e ∷ es)) (pos (index + 1)) e.lit u (inl refl) (omega (arith, same, t.1.not_zero)) in
    get_or-set_other (holding held (trues es)) (var_of e.lit - 1) index e.lit (pos 0) differ
    ∙ holding_unset vars held es index t.2 (record { not_true = λ i. u.not_true (inr i); not_false = λ i. u.not_false (inr i) })

-- at first each literal is its variable
pub held_new : (first vars index : ℕ) → index < vars → slice_index_or (positive_from first vars) index (pos 0) ≡ pos (first + index)
held_new first zero index h = absurd (omega (arith, h))
held_new first (suc vars) zero h = ap pos (omega arith)
held_new first (suc vars) (suc index) h = held_new (first + 1) vars index (omega (arith, h)) ∙ ap pos (omega arith)

pub length-positive_from : (first vars : ℕ) → length (positive_from first vars) ≡ vars
length-positive_from first zero = refl
length-positive_from first (suc vars) = omega (arith, length-positive_from (first + 1) vars)

-- they are pushed one by one
pub positive_step : (lits all : List ℤ) (var vars : ℕ) → var < vars → lits ++ positive_from (var + 1) (vars - var) ≡ all
    → (lits ++ pos (var + 1) ∷ []) ++ positive_from (var + 1 + 1) (vars - (var + 1)) ≡ all
positive_step lits all var vars h is =
    let count : suc (vars - (var + 1)) ≡ vars - var = omega (arith, h) in
    append_assoc lits (pos (var + 1) ∷ []) (positive_from (var + 1 + 1) (vars - (var + 1)))
    ∙ ap (λ (n : ℕ). lits ++ positive_from (var + 1) n) count
    ∙ is

pub held_of_vars : (vars : ℕ) (held : List ℤ) → held ≡ positive_from 1 vars → AreOfVars vars held
held_of_vars vars held is = λ index h.
    ap (λ (lits : List ℤ). var_of (slice_index_or lits index (pos 0))) is ∙ ap var_of (held_new 1 vars index h) ∙ omega arith

-- at first no variable has a value
pub values_new : (vars : ℕ) (values : List Value) (trues : List ℤ) → trues ≡ [] → values ≡ replicate vars Unset → AreValues vars values trues
values_new vars values trues none is = λ index h.
    let gone : slice_index_or values index Unset ≡ Unset = ap (λ (vs : List Value). slice_index_or vs index Unset) is ∙ get_or-replicate vars index Unset Unset h in
    subst (λ (v : Value). IsValue trues (pos (index + 1)) (truth_of v)) (sym gone)
    (subst (λ (ts : List ℤ). IsUnset ts (pos (index + 1))) (sym none) (record { not_true = λ i. i; not_false = λ i. i }))
