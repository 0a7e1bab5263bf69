-- What a search keeps true from step to step (conflict-driven clause learning: Marques-Silva and Sakallah 1999; assumed
-- literals as the first decisions: Eén and Sörensson 2003).
use Rattle.std.specs.Prelude.{◌≡◌, ◌⊎◌, ℕ, ◌+◌, ◌<◌, ◌≤◌, Bool, true, false, List, [], ◌∷◌, ℤ, pos, negsuc, Option, Some, None}
use Rattle.sat_base.specs.Members.{In}
use Rattle.sat_base.specs.Database.{StoredClause, AreOver}
use Rattle.sat_base.specs.Units.{AllTrue, IsFixpoint, IsReason, IsConsequence}
use Rattle.trail_book.specs.declared.entry.Entry.{Entry}
use Rattle.trail_book.specs.Trail.{trues, top, IsTrail, IsTouched}
use Rattle.trail_book.specs.Order.{IsPositive}
use Rattle.learn_step.specs.Reasons.{HasUnit}
use Rattle.lrat_steps.specs.Log.{LogStep, db_of}
use Rattle.lrat_steps.specs.Honest.{IsHonest}

-- how a literal may be decided at a level: up to level `count` it is an assumed one, and above it any one, where all
-- assumed literals are true
abbrev pub IsDecided : List ℤ → ℕ → ℕ → List ℤ → ℤ → Type 0
IsDecided assumed count level trues lit = ((level ≤ count) × In lit assumed) ⊎ ((count < level) × AllTrue trues assumed)

-- before a decision nothing was left to propagate; any other literal is forced by the clause of its reason, and by a live one
abbrev pub IsSoundEntry : List StoredClause → List ℤ → ℕ → List Entry → ℤ → Option ℕ → Type 0
IsSoundEntry db assumed count es lit None = IsDecided assumed count (top es + 1) (trues es) lit × IsFixpoint db (trues es)
IsSoundEntry db assumed count es lit (Some id) = IsReason db (trues es) lit id × IsConsequence db (trues es) lit

-- each literal of the trail came onto it so, and the clause of its unit step, where it has one, is that literal alone
abbrev pub IsSound : List StoredClause → List ℤ → ℕ → List Entry → Type 0
IsSound db assumed count [] = Unit {0}
IsSound db assumed count (e ∷ es) = IsSoundEntry db assumed count es e.lit e.reason × HasUnit db e.lit e.unit × IsSound db assumed count es

-- a literal that is decided above level `count` is positive
abbrev pub IsPositiveAbove : ℕ → ℕ → ℤ → Option ℕ → Type 0
IsPositiveAbove count level lit None = count < level → IsPositive lit
IsPositiveAbove count level lit (Some id) = Unit {0}

-- each choice, which is a decision above level `count`, is a positive literal
abbrev pub ArePositive : ℕ → List Entry → Type 0
ArePositive count [] = Unit {0}
ArePositive count (e ∷ es) = IsPositiveAbove count (top es + 1) e.lit e.reason × ArePositive count es

-- the clauses of the store are those of the steps of an honest log
pub record IsRecorded (vars : ℕ) (db : List StoredClause) (log : List LogStep) : Type 0 where
  pub same : db_of log ≡ db
  pub honest : IsHonest log
  pub over : AreOver vars db

-- the trail is sound over these clauses, and its first `count` levels are assumed
pub record IsState (vars : ℕ) (db : List StoredClause) (log : List LogStep) (es : List Entry) (assumed : List ℤ) (count : ℕ) : Type 0 where
  pub recorded : IsRecorded vars db log
  pub trail : IsTrail vars es
  pub sound : IsSound db assumed count es
  pub levels : count ≤ top es

-- the literal is true where its variable has this value
abbrev pub IsTrueBy : Bool → ℤ → Type 0
IsTrueBy value (pos v) = value ≡ true
IsTrueBy value (negsuc v) = value ≡ false

-- of the literals of these clauses, each that is not true by the value that a model gives to what has none is touched
abbrev pub AreTouched : Bool → List Bool → List (List ℤ) → Type 0
AreTouched default touched clauses = (c : List ℤ) → In c clauses → (l : ℤ) → In l c → IsTouched touched l ⊎ IsTrueBy default l

-- the trail is at level 0, where nothing is decided
pub record IsRoot (vars : ℕ) (db : List StoredClause) (log : List LogStep) (es : List Entry) : Type 0 where
  pub state : IsState vars db log es [] 0
  pub level : top es ≡ 0
