-- Repair of models: which clauses may be false.
use Rattle.std.specs.Prelude.{◌≡◌, ◌⊎◌, ℕ, Bool, true, List, Some, slice_get}
use Rattle.sat_base.specs.Literals.{clause_true}
use Rattle.sat_base.specs.Members.{In}
use Rattle.gm_base.specs.declared.clause.Clause.{Clause}
use Rattle.gm_base.specs.Problem.{Problem}
use Rattle.model_flips.specs.declared.repair.Repair.{Repair}

-- those of the clauses at these places that the assignment makes false are listed
abbrev pub IsFalseAmong : Problem → List Bool → List ℕ → List ℕ → Type 0
IsFalseAmong p values places falsified = (at : ℕ) (c : Clause) → In at places → slice_get p.clauses at ≡ Some c → (clause_true values c.lits ≡ true) ⊎ In at falsified

-- each clause that the assignment makes false is at one of these places
abbrev pub AreFalse : Problem → List Bool → List ℕ → Type 0
AreFalse p values falsified = (at : ℕ) (c : Clause) → slice_get p.clauses at ≡ Some c → (clause_true values c.lits ≡ true) ⊎ In at falsified

-- each clause that its assignment makes false is listed
abbrev pub IsRepair : Problem → Repair → Type 0
IsRepair p r = AreFalse p r.values r.falsified.items
