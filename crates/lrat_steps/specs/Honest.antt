-- Honest logs: each derived clause follows by its hints, each learnt clause is new among the live ones, and what is forgotten
-- may be.
use Rattle.std.specs.Prelude.{◌≡◌, ℕ, true, List, [], ◌∷◌, ◌++◌, ℤ, neg_ℤ}
use Rattle.sat_base.specs.Literals.{var_of}
use Rattle.sat_base.specs.Members.{In}
use Rattle.sat_base.specs.Derivation.{follows}
use Rattle.sat_base.specs.Database.{StoredClause, known_of, IsLive}
use Rattle.lrat_steps.specs.Log.{LogStep, Input, Learned, Core, Forgot, db_of, inputs_of}
use Rattle.lrat_steps.specs.Forgetting.{IsForgettable}

-- each literal of the first clause is in the second
abbrev pub Subsumes : List ℤ → List ℤ → Type 0
Subsumes small large = (l : ℤ) → In l small → In l large

-- the variable stands in one of the clauses
abbrev pub HasVar : List (List ℤ) → ℕ → Type 0
HasVar clauses var = (c : List ℤ) × (l : ℤ) × In c clauses × In l c × (var_of l ≡ var)

-- no literal together with its negation, and only variables of the inputs
pub record IsProper (inputs : List (List ℤ)) (lits : List ℤ) : Type 0 where
  pub consistent : (l : ℤ) → In l lits → ¬ In (neg_ℤ l) lits
  pub vars : (l : ℤ) → In l lits → HasVar inputs (var_of l)

-- a proper clause that follows from the earlier ones by its hints
pub record IsDerived (inputs : List (List ℤ)) (earlier : List StoredClause) (lits : List ℤ) (hints : List ℕ) : Type 0 where
  pub follows : follows (known_of earlier) lits hints ≡ true
  pub proper : IsProper inputs lits

-- no live clause subsumes these literals
abbrev pub IsNew : List StoredClause → List ℤ → Type 0
IsNew earlier lits = (c : List ℤ) → IsLive earlier c → ¬ Subsumes c lits

-- what a step or a mark has to be, behind the earlier ones
abbrev pub IsHonestStep : List (List ℤ) → List LogStep → LogStep → Type 0
IsHonestStep inputs earlier (Input lits) = Unit {0}
IsHonestStep inputs earlier (Learned lits hints) = IsDerived inputs (db_of earlier) lits hints × IsNew (db_of earlier) lits
IsHonestStep inputs earlier (Core lits hints) = IsDerived inputs (db_of earlier) lits hints
IsHonestStep inputs earlier (Forgot id) = IsForgettable earlier id

abbrev pub HonestFrom : List (List ℤ) → List LogStep → List LogStep → Type 0
HonestFrom inputs earlier [] = Unit {0}
HonestFrom inputs earlier (s ∷ log) = IsHonestStep inputs earlier s × HonestFrom inputs (earlier ++ s ∷ []) log

-- the log is honest over the clauses that were given
abbrev pub IsHonest : List LogStep → Type 0
IsHonest log = HonestFrom (inputs_of log) [] log
