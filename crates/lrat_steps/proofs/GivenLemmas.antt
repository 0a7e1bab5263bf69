-- Lemmas on how given clauses are kept.
use Rattle.std.proofs.Common.{◌≡◌, ℕ, zero, suc, ◌+◌, ◌<◌, ◌≤◌, ◌^◌, Some, refl, sym, subst, ap, ap₂, ◌∙◌, List, [], ◌∷◌, ◌++◌, length, get_or, arith, length-append}
use Rattle.std.specs.Prelude.{ℤ, slice_get, slice_range}
use Rattle.std.proofs.lemmas.List.{length_push}
use Rattle.sat_base.proofs.SpanLemmas.{range_before, range_at_end}
use Rattle.lrat_steps.specs.declared.given.Clauses.TheInside.{Inside}
use Rattle.lrat_steps.specs.Given.{clauses_from, clauses_of, Rise, IsCut}

rise_ends : (from last : ℕ) (ends : List ℕ) → Rise from last ends → from ≤ last
rise_ends from last [] rise = omega (arith, rise)
rise_ends from last (to ∷ ends) rise = let rest = rise_ends to last ends rise.1 in omega (arith, rise.0)

-- a clause for each end
length-clauses : (lits : List ℤ) (from : ℕ) (ends : List ℕ) → length (clauses_from lits from ends) ≡ length ends
length-clauses lits from [] = refl
length-clauses lits from (to ∷ ends) = let rest = length-clauses lits to ends in omega arith

pub ends_count : (c : Inside) (clauses : List (List ℤ)) → clauses_of c ≡ clauses → length c.ends.items ≡ length clauses
ends_count c clauses is = sym (length-clauses c.lits.items 0 c.ends.items) ∙ ap (λ (cs : List (List ℤ)). length cs) is

-- the clauses after one more
clauses_after_push : (lits more : List ℤ) (from : ℕ) (ends : List ℕ) (to : ℕ) → Rise from (length lits) ends → to ≡ length (lits ++ more)
    → clauses_from (lits ++ more) from (ends ++ to ∷ []) ≡ clauses_from lits from ends ++ more ∷ []
clauses_after_push lits more from [] to rise is =
    ap (λ (c : List ℤ). c ∷ []) (ap (λ n. slice_range (lits ++ more) n to) rise ∙ range_at_end lits more to is)
clauses_after_push lits more from (x ∷ ends) to rise is =
    ap₂ (λ (c : List ℤ) (rest : List (List ℤ)). c ∷ rest)
    (range_before lits more from x rise.0 (rise_ends x (length lits) ends rise.1))
    (clauses_after_push lits more x ends to rise.1 is)

rise_after_push : (from last : ℕ) (ends : List ℕ) (to : ℕ) → Rise from last ends → last ≤ to → Rise from to (ends ++ to ∷ [])
rise_after_push from last [] to rise le = (omega (arith, rise), refl)
rise_after_push from last (x ∷ ends) to rise le = (rise.0, rise_after_push x last ends to rise.1 le)

-- the arena after one more clause
pub record IsPushed (old new : Inside) (more : List ℤ) (to : ℕ) : Type 0 where
  pub lits : new.lits.items ≡ old.lits.items ++ more
  pub ends : new.ends.items ≡ old.ends.items ++ to ∷ []
  pub last : to ≡ length old.lits.items + length more
  pub few : length old.ends.items + 1 < 2 ^ 32

pub clauses_pushed : (old new : Inside) (more : List ℤ) (to : ℕ) → IsCut old → IsPushed old new more to → clauses_of new ≡ clauses_of old ++ more ∷ []
clauses_pushed old new more to cut p =
    ap₂ (λ (lits : List ℤ) (ends : List ℕ). clauses_from lits 0 ends) p.lits p.ends
    ∙ clauses_after_push old.lits.items more 0 old.ends.items to cut.ends (omega (arith, p.last, length-append old.lits.items more))

pub cut_pushed : (old new : Inside) (more : List ℤ) (to : ℕ) → IsCut old → IsPushed old new more to → IsCut new
cut_pushed old new more to cut p =
    let is : to ≡ length new.lits.items = p.last ∙ sym (ap (λ (ls : List ℤ). length ls) p.lits ∙ length-append old.lits.items more) in
    record {
      ends =
          subst (λ (ends : List ℕ). Rise 0 (length new.lits.items) ends) (sym p.ends)
          (subst (λ n. Rise 0 n (old.ends.items ++ to ∷ [])) is (rise_after_push 0 (length old.lits.items) old.ends.items to cut.ends (omega (arith, p.last))));
      few = omega (arith, p.few, ap (λ (ends : List ℕ). length ends) p.ends, length_push old.ends.items to);
    }

-- the clause at a place lies from `from` up to `to`
pub record IsAt (lits : List ℤ) (clauses : List (List ℤ)) (at from to : ℕ) : Type 0 where
  pub ordered : from ≤ to
  pub within : to ≤ length lits
  pub clause : slice_get clauses at ≡ Some (slice_range lits from to)

clause_at : (lits : List ℤ) (start : ℕ) (ends : List ℕ) (at from to : ℕ) → Rise start (length lits) ends → from ≡ get_or (start ∷ ends) at 0 → to ≡ get_or ends at to → at < length ends
    → IsAt lits (clauses_from lits start ends) at from to
clause_at lits start [] at from to rise before is lt = absurd (omega arith)
clause_at lits start (x ∷ ends) zero from to rise before is lt =
    let high = rise_ends x (length lits) ends rise.1 in
    record {
      ordered = omega (arith, rise.0, before, is);
      within = omega (arith, high, is);
      clause = ap₂ (λ (a b : ℕ). Some (slice_range lits a b)) (sym before) (sym is);
    }
clause_at lits start (x ∷ ends) (suc at) from to rise before is lt =
    let rest = clause_at lits x ends at from to rise.1 before is (omega arith) in
    record { ordered = rest.ordered; within = rest.within; clause = rest.clause }

pub read_at : (c : Inside) (clauses : List (List ℤ)) (at : ℕ) (ends : List ℕ) (from to : ℕ) → IsCut c → clauses_of c ≡ clauses → at < length clauses
    → ends ≡ c.ends.items → from ≡ get_or (0 ∷ ends) at 0 → to ≡ get_or c.ends.items at to → IsAt c.lits.items clauses at from to
read_at c clauses at ends from to cut is lt ends_are before here =
    let within : at < length c.ends.items = omega (arith, lt, ends_count c clauses is) in
    let start : from ≡ get_or (0 ∷ c.ends.items) at 0 = before ∙ ap (λ (xs : List ℕ). get_or (0 ∷ xs) at 0) ends_are in
    subst (λ (cs : List (List ℤ)). IsAt c.lits.items cs at from to) is (clause_at c.lits.items 0 c.ends.items at from to cut.ends start here within)
