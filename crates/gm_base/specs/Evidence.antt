-- Evidence that a set of groups is a minimal conflict or a minimal correction: derivations over clauses with selectors,
-- and assignments.
use Rattle.std.specs.Prelude.{◌≡◌, ℕ, ◌+◌, Bool, true, false, ◌==◌, ◌&&◌, List, [], ◌∷◌, ◌++◌, map, length, ℤ, pos, neg_ℤ, if◌then◌else◌}
use Rattle.std.specs.Ordering.{int_eq}
use Rattle.std.specs.List.{list_any}
use Rattle.gm_base.specs.declared.clause.Clause.{Clause}
use Rattle.gm_base.specs.Sets.{IsGroupSet, without}
use Rattle.gm_base.specs.Problem.{Problem, satisfies}
use Rattle.sat_base.specs.Derivation.{Derivation, derives_within}

-- the selector of a group is a variable of its own, behind those of the problem; this literal says that it is off
abbrev pub left_out : Problem → ℕ → ℤ
left_out p g = neg_ℤ (pos (p.vars + g))

abbrev pub with_selector : Problem → Clause → List ℤ
with_selector p c = if c.group == 0 then c.lits else c.lits ++ left_out p c.group ∷ []

-- each clause with "or its group is left out", that of the background as it is
abbrev pub selector_form : Problem → List (List ℤ)
selector_form p = map (with_selector p) p.clauses

-- a derivation of "some group of the set is left out"
abbrev pub refutes : Problem → List ℕ → Derivation → Bool
refutes p set d = derives_within (p.vars + p.groups) (selector_form p) d (λ l. list_any (λ g. int_eq (left_out p g) l) set)

-- an assignment that satisfies the background and the set
abbrev pub is_witness : Problem → List ℕ → List Bool → Bool
is_witness p set assign = (length assign == p.vars) && satisfies p set assign

-- one item for each group of the set, in order, and each passes
abbrev pub each_passes : {X : Type 0} → (ℕ → X → Bool) → List ℕ → List X → Bool
each_passes test [] [] = true
each_passes test [] (x ∷ xs) = false
each_passes test (g ∷ gs) [] = false
each_passes test (g ∷ gs) (x ∷ xs) = test g x && each_passes test gs xs

-- a minimal conflict: a refutation of the set, and for each of its groups a witness of the others
pub record AcceptsConflict (p : Problem) (set : List ℕ) (proof : Derivation) (witnesses : List (List Bool)) : Type 0 where
  pub is_set : IsGroupSet set
  pub refuted : refutes p set proof ≡ true
  pub witnessed : each_passes (λ g w. is_witness p (without set g) w) set witnesses ≡ true
