-- Reading and writing a table by literal.
use Rattle.std.proofs.Common.{◌≡◌, ◌≢◌, ℕ, ℤ, ◌+◌, ◌*◌, ◌<◌, List, length, set, get_or, get_or-set_same, get_or-set_other, sym, ap, ◌∙◌, arith}
use Rattle.std.specs.Prelude.{pos, negsuc}
use Rattle.sat_base.specs.Literals.{IsLiteral}
use Rattle.clause_store.specs.Links.{row_of}

-- a literal has a row in a table of two rows for each variable, and one for 0
row-within : (vars : ℕ) (lit : ℤ) → IsLiteral vars lit → row_of lit < 2 * vars + 2
row-within vars (pos n) h = let low = h.in_range in omega arith
row-within vars (negsuc n) h = let low = h.in_range in omega arith

-- two literals have two rows
row-same : (lit other : ℤ) → row_of other ≡ row_of lit → other ≡ lit
row-same (pos n) (pos m) e = let same : m ≡ n = omega arith in ap (λ k. pos k) same
row-same (pos n) (negsuc m) e = absurd (omega (arith, e))
row-same (negsuc n) (pos m) e = absurd (omega (arith, e))
row-same (negsuc n) (negsuc m) e = let same : m ≡ n = omega arith in ap (λ k. negsuc k) same

-- a row that was written
pub row-set : (vars : ℕ) (table : List ℕ) (lit : ℤ) (row new id : ℕ) → IsLiteral vars lit → length table ≡ 2 * vars + 2 → row ≡ row_of lit → new ≡ id → get_or (set table row new) (row_of lit) 0 ≡ id
row-set vars table lit row new id over size at is =
    let low = row-within vars lit over in
    ap (λ (r : ℕ). get_or (set table row new) r 0) (sym at) ∙ get_or-set_same table row new 0 (omega arith) ∙ is

-- the others stay
pub row-kept : (table : List ℕ) (lit other : ℤ) (row new : ℕ) → row ≡ row_of lit → other ≢ lit → get_or (set table row new) (row_of other) 0 ≡ get_or table (row_of other) 0
row-kept table lit other row new at differ = get_or-set_other table row (row_of other) new 0 (λ e. differ (row-same lit other (e ∙ at)))
