-- Clauses with selectors, and the groups that they name (assumed literals as selectors: Eén and Sörensson 2003).
use Rattle.std.specs.Prelude.{◌≡◌, ◌↔◌, ℕ, ◌+◌, ◌-◌, ◌<◌, true, List, [], ◌∷◌, map, ℤ, pos, neg_ℤ, nat_le, if◌then◌else◌}
use Rattle.std.specs.List.{filter}
use Rattle.gm_base.specs.declared.clause.Clause.{Clause}
use Rattle.sat_base.specs.Members.{In}
use Rattle.sat_base.specs.Literals.{var_of}
use Rattle.sat_base.specs.Derivation.{contains_lit}
use Rattle.gm_base.specs.Sets.{has, IsGroupSet, all_groups}
use Rattle.gm_base.specs.Problem.{Problem}
use Rattle.lrat_steps.specs.Log.{LogStep, inputs_of}

-- the literal that switches a group on, behind so many variables, and the one that switches it off
abbrev pub on : ℕ → ℕ → ℤ
on vars g = pos (vars + g)

abbrev pub off : ℕ → ℕ → ℤ
off vars g = neg_ℤ (pos (vars + g))

-- the literal switches off a group that is not the background
pub record IsOff (vars : ℕ) (lit : ℤ) : Type 0 where
  pub group : ℕ
  pub not_background : 0 < group
  pub is : lit ≡ off vars group

abbrev pub AreOff : ℕ → List ℤ → Type 0
AreOff vars lits = (l : ℤ) → In l lits → IsOff vars l

-- the groups that the literals switch off
pub record AreGroupsOf (vars : ℕ) (lits : List ℤ) (set : List ℕ) : Type 0 where
  pub is_set : IsGroupSet set
  pub groups : (g : ℕ) → (has set g ≡ true) ↔ In (off vars g) lits

-- the groups up to some one that the literals switch off
abbrev pub switched_off : ℕ → ℕ → List ℤ → List ℕ
switched_off vars groups lits = filter (λ g. contains_lit lits (off vars g)) (all_groups groups)

-- the group of a clause with its selector, which is the one literal behind the variables; the background has none
abbrev pub group_in : ℕ → List ℤ → ℕ
group_in vars [] = 0
group_in vars (l ∷ ls) = if nat_le (var_of l) vars then group_in vars ls else var_of l - vars

-- the clause without its selector
abbrev pub without_selector : ℕ → List ℤ → Clause
without_selector vars lits = record { group = group_in vars lits; lits = filter (λ l. nat_le (var_of l) vars) lits }

-- the problem behind a log of clauses with their selectors
abbrev pub problem_of : ℕ → ℕ → List LogStep → Problem
problem_of vars groups log = record { vars = vars; groups = groups; clauses = map (without_selector vars) (inputs_of log) }

-- the set has these groups and no other
pub record IsSetOf (groups set : List ℕ) : Type 0 where
  pub is_set : IsGroupSet set
  pub same : (g : ℕ) → has set g ≡ has groups g
