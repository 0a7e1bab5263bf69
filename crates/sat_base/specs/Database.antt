-- Clauses as a solver keeps them: under ids that rise from 1, each live or not. A clause that is not live is only there to
-- be named by a hint: it is never propagated (LRAT's clauses; MiniSat's clause database).
use Rattle.std.specs.Prelude.{ℕ, Bool, true, List, map, ℤ}
use Rattle.sat_base.specs.Members.{In}
use Rattle.sat_base.specs.Literals.{AreLiterals}
use Rattle.sat_base.specs.Derivation.{numbered}

pub record StoredClause : Type 0 where
  pub lits : List ℤ
  pub live : Bool

-- the clauses under their ids
abbrev pub known_of : List StoredClause → List (ℕ × List ℤ)
known_of db = numbered 1 (map (λ (c : StoredClause). c.lits) db)

-- these literals are a clause that is live
abbrev pub IsLive : List StoredClause → List ℤ → Type 0
IsLive db lits = In (record { lits = lits; live = true }) db

-- only literals over the variables 1 to vars
abbrev pub AreOver : ℕ → List StoredClause → Type 0
AreOver vars db = (c : StoredClause) → In c db → AreLiterals vars c.lits
