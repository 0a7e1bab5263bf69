-- The values of the literals on the trail as an assignment.
use Rattle.std.proofs.Common.{◌≡◌, ◌≢◌, ◌⊎◌, ℕ, zero, suc, ◌+◌, ◌-◌, ◌<◌, Bool, true, false, not, List, [], ◌∷◌, length, get_or, set, refl, sym, ◌∙◌, ap, subst, inl, inr, arith}
use Rattle.std.specs.Prelude.{ℤ, pos, negsuc, drop}
use Rattle.std.proofs.lemmas.Bool.{false_from_ne_true, cases_eq}
use Rattle.std.proofs.lemmas.List.{get_or-set_same, get_or-set_other}
use Rattle.sat_base.specs.Members.{In}
use Rattle.sat_base.specs.Literals.{var_of, IsLiteral, literal_true}
use Rattle.sat_base.specs.Units.{IsUnset, HasValue}
use Rattle.trail_book.specs.declared.entry.Entry.{Entry}
use Rattle.trail_book.specs.Trail.{trues, oldest, IsTrail}
use Rattle.trail_book.proofs.TrailLemmas.{same_var, trail_vars}

trail_drop : (vars k : ℕ) (es : List Entry) → IsTrail vars es → IsTrail vars (drop k es)
trail_drop vars zero es t = t
trail_drop vars (suc k) [] t = t
trail_drop vars (suc k) (e ∷ es) t = trail_drop vars k es t.2

newest : (vars : ℕ) (xs : List Entry) (lit : ℤ) (low : List ℤ) → IsTrail vars xs → trues xs ≡ lit ∷ low → IsUnset low lit × IsLiteral vars lit
newest vars [] lit low t is = cc
newest vars (x ∷ xs) lit low t is =
    let first : x.lit ≡ lit = cc in
    let rest : trues xs ≡ low = cc in
    (subst (λ (ls : List ℤ). IsUnset ls lit) rest (subst (IsUnset (trues xs)) first t.0), subst (IsLiteral vars) first t.1)

-- the literal at a place is new there
pub placed : (vars n : ℕ) (es : List Entry) (lit : ℤ) → IsTrail vars es → trues (oldest (n + 1) es) ≡ lit ∷ trues (oldest n es) → IsUnset (trues (oldest n es)) lit × IsLiteral vars lit
placed vars n es lit t is = newest vars (oldest (n + 1) es) lit (trues (oldest n es)) (trail_drop vars (length es - (n + 1)) es t) is

value_new : (assign : List Bool) (lit : ℤ) (b : Bool) → IsLiteral (length assign) lit → (b ≡ true → lit ≡ pos (var_of lit)) → (lit ≡ pos (var_of lit) → b ≡ true)
    → literal_true (set assign (var_of lit - 1) b) lit ≡ true
value_new assign (pos v) b lit to from = get_or-set_same assign (v - 1) b false (let low = lit.not_zero in let high = lit.in_range in omega (arith, low, high)) ∙ from refl
value_new assign (negsuc v) b lit to from =
    let down : suc v - 1 ≡ v = omega arith in
    let negative : b ≡ false = false_from_ne_true b (λ t. (let e : negsuc v ≡ pos (suc v) = to t in cc)) in
    ap (λ (i : ℕ). not (get_or (set assign i b) v false)) down
    ∙ ap not (get_or-set_same assign v b false (let high = lit.in_range in omega (arith, high)))
    ∙ ap not negative

value_old : (assign : List Bool) (lit m : ℤ) (b : Bool) → 0 < var_of lit → 0 < var_of m → var_of m ≢ var_of lit → literal_true (set assign (var_of lit - 1) b) m ≡ literal_true assign m
value_old assign lit (pos v) b low other differ = get_or-set_other assign (var_of lit - 1) (v - 1) b false (λ e. differ (omega (arith, e, low, other)))
value_old assign lit (negsuc v) b low other differ = ap not (get_or-set_other assign (var_of lit - 1) v b false (λ e. differ (omega (arith, e, low))))

pub values_step : (vars n : ℕ) (es : List Entry) (lit : ℤ) (assign : List Bool) (b : Bool) → IsTrail vars es → trues (oldest (n + 1) es) ≡ lit ∷ trues (oldest n es) → length assign ≡ vars
    → (b ≡ true → lit ≡ pos (var_of lit)) → (lit ≡ pos (var_of lit) → b ≡ true) → ((l : ℤ) → In l (trues (oldest n es)) → literal_true assign l ≡ true)
    → (l : ℤ) → In l (trues (oldest (n + 1) es)) → literal_true (set assign (var_of lit - 1) b) l ≡ true
values_step vars n es lit assign b t is len to from old l i =
    let low = oldest n es in
    let (unset, literal) = placed vars n es lit t is in
    go unset literal (subst (In l) is i)
  where
    go : IsUnset (trues (oldest n es)) lit → IsLiteral vars lit → In l (lit ∷ trues (oldest n es)) → literal_true (set assign (var_of lit - 1) b) l ≡ true
    go unset literal (inl same) =
        subst (λ m. literal_true (set assign (var_of lit - 1) b) m ≡ true) (sym same)
        (value_new assign lit b (subst (λ (n : ℕ). IsLiteral n lit) (sym len) literal) to from)
    go unset literal (inr j) =
        let other = trail_vars vars (oldest n es) (trail_drop vars (length es - n) es t) l j in
        value_old assign lit l b literal.not_zero other.not_zero
        (λ same. elim (same_var l lit same) [ inl is ↦ unset.not_true (subst (λ m. In m (trues (oldest n es))) is j) | inr turned ↦ unset.not_false (subst (λ m. In m (trues (oldest n es))) turned j) ])
        ∙ old l j

value_first : (lit l : ℤ) (low : List ℤ) → var_of lit ≡ var_of l → HasValue (lit ∷ low) l
value_first lit l low same = elim (same_var lit l same) [ inl is ↦ inl (inl (sym is)) | inr turned ↦ inr (inl (sym turned)) ]

value_later : (lit l : ℤ) (low : List ℤ) → HasValue low l → HasValue (lit ∷ low) l
value_later lit l low (inl yes_true) = inl (inr yes_true)
value_later lit l low (inr is_false) = inr (inr is_false)

-- a variable has a value on the trail, or is as it was at first
pub others_step : (vars n : ℕ) (es : List Entry) (lit : ℤ) (assign : List Bool) (b other : Bool) → 0 < var_of lit → trues (oldest (n + 1) es) ≡ lit ∷ trues (oldest n es)
    → ((index : ℕ) → index < vars → HasValue (trues (oldest n es)) (pos (index + 1)) ⊎ (get_or assign index false ≡ other))
    → (index : ℕ) → index < vars → HasValue (trues (oldest (n + 1) es)) (pos (index + 1)) ⊎ (get_or (set assign (var_of lit - 1) b) index false ≡ other)
others_step vars n es lit assign b other low is old index h = elim (cases_eq index (var_of lit - 1)) [
  | inl same ↦ inl (subst (λ (ts : List ℤ). HasValue ts (pos (index + 1))) (sym is) (value_first lit (pos (index + 1)) (trues (oldest n es)) (omega (arith, same, low))))
  | inr apart ↦ elim (old index h) [
    | inl has ↦ inl (subst (λ (ts : List ℤ). HasValue ts (pos (index + 1))) (sym is) (value_later lit (pos (index + 1)) (trues (oldest n es)) has))
    | inr free ↦ inr (get_or-set_other assign (var_of lit - 1) index b false apart ∙ free)
  ]
]
