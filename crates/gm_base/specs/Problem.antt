-- Problems: clauses in groups (GCNF), and the sets of groups that an assignment satisfies.
use Rattle.std.specs.Prelude.{◌≡◌, ℕ, ◌≤◌, Bool, true, not, ◌==◌, ◌||◌, List, length}
use Rattle.std.specs.List.{list_all, AllByRecursion}
use Rattle.gm_base.specs.declared.clause.Clause.{Clause}
use Rattle.gm_base.specs.Sets.{has}
use Rattle.sat_base.specs.Literals.{AreLiterals, clause_true}

-- clauses in groups from 0 to groups, over the variables 1 to vars
pub record Problem : Type 0 where
  pub vars : ℕ
  pub groups : ℕ
  pub clauses : List Clause

pub record IsClause (vars groups : ℕ) (clause : Clause) : Type 0 where
  pub group : clause.group ≤ groups
  pub lits : AreLiterals vars clause.lits

-- each clause is of one of the groups, or of the background, and over the variables
abbrev pub IsProblem : Problem → Type 0
IsProblem p = AllByRecursion (IsClause p.vars p.groups) p.clauses

-- the background is always present, and a group where it is in the set
abbrev pub is_present : List ℕ → Clause → Bool
is_present set clause = (clause.group == 0) || has set clause.group

-- the assignment makes the clauses of the background and of the groups of the set true
abbrev pub satisfies : Problem → List ℕ → List Bool → Bool
satisfies p set assign = list_all (λ c. not (is_present set c) || clause_true assign c.lits) p.clauses

-- some assignment does
abbrev pub Sat : Problem → List ℕ → Type 0
Sat p set = (assign : List Bool) × (length assign ≡ p.vars) × (satisfies p set assign ≡ true)
