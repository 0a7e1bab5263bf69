-- The literals of a step's clause, looked at in two passes: whether they are over the variables, and then, where they are
-- marked, whether one stands with its negation.
use Rattle.std.proofs.Common.{◌≡◌, ℕ, Bool, true, false, not, ◌&&◌, ◌||◌, List, [], ◌∷◌, refl, sym, ◌∙◌, ap}
use Rattle.std.specs.Prelude.{ℤ, neg_ℤ, nat_lt, nat_le}
use Rattle.std.specs.List.{list_any, list_all}
use Rattle.std.proofs.lemmas.Bool.{and_parts, and_from, lt-ltb, le-leb, ltb-true, leb-true, true≢false}
use Rattle.sat_base.specs.Literals.{var_of, IsLiteral, AreLiterals}
use Rattle.sat_base.specs.Derivation.{contains_lit, is_step_clause}
use Rattle.sat_base.proofs.Members.{all_at, any_from}
use Rattle.lrat_check.specs.Marks.{is_marked, AreMarked}

abbrev fits : ℕ → List ℤ → ℤ → Bool
fits vars whole l = nat_lt 0 (var_of l) && nat_le (var_of l) vars && not (contains_lit whole (neg_ℤ l))

abbrev negation_marked : List Bool → ℤ → Bool
negation_marked marks l = is_marked marks (neg_ℤ l)

over_all : (vars : ℕ) (whole ls : List ℤ) → list_all (fits vars whole) ls ≡ true → AreLiterals vars ls
over_all vars whole [] all = tt
over_all vars whole (l ∷ ls) all =
    let both = and_parts (fits vars whole l) (list_all (fits vars whole) ls) all in
    let parts = and_parts (nat_lt 0 (var_of l) && nat_le (var_of l) vars) (not (contains_lit whole (neg_ℤ l))) both.0 in
    let bounds = and_parts (nat_lt 0 (var_of l)) (nat_le (var_of l) vars) parts.0 in
    (record { not_zero = ltb-true 0 (var_of l) bounds.0; in_range = leb-true (var_of l) vars bounds.1 }, over_all vars whole ls both.1)

pub clause_over : (vars : ℕ) (lits : List ℤ) → is_step_clause vars lits ≡ true → AreLiterals vars lits
clause_over vars lits is = over_all vars lits lits is

pub clause_outside : (vars : ℕ) (lits : List ℤ) → ¬ AreLiterals vars lits → is_step_clause vars lits ≡ false
clause_outside vars lits outside = by (is_step_clause vars lits) refl
  where
    by : (b : Bool) → is_step_clause vars lits ≡ b → b ≡ false
    by true is = absurd (outside (clause_over vars lits is))
    by false is = refl

one_fits : (vars : ℕ) (whole : List ℤ) (marks : List Bool) (l : ℤ) → AreMarked marks whole → IsLiteral vars l → negation_marked marks l ≡ false → fits vars whole l ≡ true
one_fits vars whole marks l are over none =
    and_from (nat_lt 0 (var_of l) && nat_le (var_of l) vars) (not (contains_lit whole (neg_ℤ l)))
    (and_from (nat_lt 0 (var_of l)) (nat_le (var_of l) vars) (lt-ltb 0 (var_of l) over.not_zero) (le-leb (var_of l) vars over.in_range))
    (ap not (sym (are (neg_ℤ l)) ∙ none))

all_fit : (vars : ℕ) (whole ls : List ℤ) (marks : List Bool) → AreMarked marks whole → AreLiterals vars ls → list_any (negation_marked marks) ls ≡ false → list_all (fits vars whole) ls ≡ true
all_fit vars whole [] marks are over none = refl
all_fit vars whole (l ∷ ls) marks are over none =
    let parts = neither (negation_marked marks l) (list_any (negation_marked marks) ls) none in
    and_from (fits vars whole l) (list_all (fits vars whole) ls) (one_fits vars whole marks l are over.0 parts.0) (all_fit vars whole ls marks are over.1 parts.1)
  where
    neither : (a b : Bool) → (a || b) ≡ false → (a ≡ false) × (b ≡ false)
    neither true b e = absurd (true≢false e)
    neither false b e = (refl, e)

pub clause_fits : (vars : ℕ) (lits : List ℤ) (marks : List Bool) → AreMarked marks lits → AreLiterals vars lits → list_any (negation_marked marks) lits ≡ false → is_step_clause vars lits ≡ true
clause_fits vars lits marks are over none = all_fit vars lits lits marks are over none

pub clause_opposed : (vars : ℕ) (lits : List ℤ) (marks : List Bool) → AreMarked marks lits → list_any (negation_marked marks) lits ≡ true → is_step_clause vars lits ≡ false
clause_opposed vars lits marks are some = by (is_step_clause vars lits) refl
  where
    last : (l : ℤ) → fits vars lits l ≡ true → is_marked marks (neg_ℤ l) ≡ true → ⊥
    last l fit marked =
        let parts = and_parts (nat_lt 0 (var_of l) && nat_le (var_of l) vars) (not (contains_lit lits (neg_ℤ l))) fit in
        true≢false (sym parts.1 ∙ ap not (sym (are (neg_ℤ l)) ∙ marked))

    by : (b : Bool) → is_step_clause vars lits ≡ b → b ≡ false
    by true is = let (l, i, marked) = any_from (negation_marked marks) lits some in absurd (last l (all_at (fits vars lits) lits l is i) marked)
    by false is = refl
