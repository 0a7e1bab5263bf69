-- How trails grow by propagation.
use Rattle.std.proofs.Common.{◌≡◌, ℕ, ◌≤◌, List, [], ◌∷◌, length, Option, Some, None, refl, sym, ◌∙◌, ap, subst, inl, inr, arith}
use Rattle.std.specs.Prelude.{ℤ}
use Rattle.sat_base.specs.Members.{In}
use Rattle.sat_base.specs.Literals.{IsLiteral, AreLiterals}
use Rattle.sat_base.specs.Database.{StoredClause}
use Rattle.trail_book.specs.declared.entry.Entry.{Entry}
use Rattle.sat_base.specs.Units.{IsReason, IsConsequence}
use Rattle.trail_book.specs.Trail.{trues, top, level_after}
use Rattle.propagate.specs.Propagation.{IsForced, Grows}

pub grows-refl : (db : List StoredClause) (es : List Entry) → Grows db es es
grows-refl db [] = refl
grows-refl db (e ∷ es) = inl refl

pub grows-from : (db : List StoredClause) (old new : List Entry) → new ≡ old → Grows db old new
grows-from db old new same = subst (Grows db old) (sym same) (grows-refl db old)

pub grows-trans : (db : List StoredClause) (old mid new : List Entry) → Grows db old mid → Grows db mid new → Grows db old new
grows-trans db old mid [] g h = subst (Grows db old) h g
grows-trans db old mid (e ∷ es) g (inl same) = subst (Grows db old) same g
grows-trans db old mid (e ∷ es) g (inr (forced, unit, h)) = inr (forced, unit, grows-trans db old mid es g h)

pub grows-length : (db : List StoredClause) (old new : List Entry) → Grows db old new → length old ≤ length new
grows-length db old [] same = let none = ap length same in omega (arith, none)
grows-length db old (e ∷ es) (inl same) = let len = ap length same in omega (arith, len)
grows-length db old (e ∷ es) (inr (forced, unit, h)) = let rest = grows-length db old es h in omega (arith, rest)

-- a trail that is no longer than it was is as it was
pub grows-same : (db : List StoredClause) (old new : List Entry) → Grows db old new → length new ≤ length old → new ≡ old
grows-same db old [] same len = sym same
grows-same db old (e ∷ es) (inl same) len = sym same
grows-same db old (e ∷ es) (inr (forced, unit, h)) len = let rest = grows-length db old es h in absurd (omega (arith, rest, len))

pub literal_in : (vars : ℕ) (lits : List ℤ) (l : ℤ) → AreLiterals vars lits → In l lits → IsLiteral vars l
literal_in vars [] l h i = absurd i
literal_in vars (m ∷ ms) l h (inl same) = subst (IsLiteral vars) (sym same) h.0
literal_in vars (m ∷ ms) l h (inr later) = literal_in vars ms l h.1 later

-- what has come is forced, and of the top level
pub forced : (db : List StoredClause) (trues : List ℤ) (l : ℤ) (r u : Option ℕ) → IsForced db trues (record { lit = l; reason = r; unit = u })
    → (id : ℕ) × (r ≡ Some id) × IsReason db trues l id × IsConsequence db trues l
forced db trues l None u f = absurd f
forced db trues l (Some id) u f = (id, refl, f.0, f.1)

pub top_grows : (db : List StoredClause) (old new : List Entry) → Grows db old new → top new ≡ top old
top_grows db old [] g = ap top (sym g)
top_grows db old (e ∷ es) (inl same) = ap top (sym same)
top_grows db old (e ∷ es) (inr g) =
    let (id, is, r, k) = forced db (trues es) e.lit e.reason e.unit g.0 in ap (λ (r : Option ℕ). level_after r (top es)) is ∙ top_grows db old es g.2
