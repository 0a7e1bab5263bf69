-- Rotation of models: where variables stand, and what the flip of one is known to leave true.
use Rattle.std.specs.Prelude.{◌≡◌, ◌⊎◌, ℕ, ℤ, Bool, true, List, [], Some, slice_get, slice_index_or}
use Rattle.sat_base.specs.Literals.{var_of, clause_true}
use Rattle.sat_base.specs.Members.{In}
use Rattle.gm_base.specs.declared.clause.Clause.{Clause}
use Rattle.gm_base.specs.Sets.{has, complement}
use Rattle.gm_base.specs.Problem.{Problem}
use Rattle.gm_base.specs.Evidence.{is_witness}
use Rattle.model_flips.specs.declared.rotation.Turned.{Turned}

-- the places that are listed under a variable
abbrev pub listed : List (List ℕ) → ℕ → List ℕ
listed lists var = slice_index_or lists var []

-- each clause is listed under the variable of each of its literals
abbrev pub IsListing : List Clause → List (List ℕ) → Type 0
IsListing clauses lists = (at : ℕ) (c : Clause) (lit : ℤ) → slice_get clauses at ≡ Some c → In lit c.lits → In at (listed lists (var_of lit))

-- the assignment satisfies the background and all groups but these
abbrev pub Satisfies : Problem → List ℕ → List Bool → Type 0
Satisfies p out assign = is_witness p (complement p.groups out) assign ≡ true

-- the clauses at these places are true or their groups are left out, and so are those that were left out before
pub record HasLost (p : Problem) (values : List Bool) (left out places : List ℕ) : Type 0 where
  pub keeps : (g : ℕ) → has left g ≡ true → has out g ≡ true
  pub lost : (at : ℕ) (c : Clause) → In at places → slice_get p.clauses at ≡ Some c → (clause_true values c.lits ≡ true) ⊎ (has out c.group ≡ true)

-- where the lists are whole and the assignment before satisfied all groups but those left out, so does this one
abbrev pub IsTurned : Problem → List (List ℕ) → List ℕ → List Bool → Turned → Type 0
IsTurned p lists out assign t = IsListing p.clauses lists → Satisfies p out assign → Satisfies p t.out t.assign
