-- The conflicts that records hold, by their numbers in the report.
use Rattle.std.specs.Prelude.{◌≡◌, ◌<◌, ◌+◌, ℕ, Bool, true, false, List, ◌∷◌, ◌++◌, length, Option, Some, None}
use Rattle.std.specs.Borrow.{Bor}
use Rattle.std.specs.List.{filter}
use Rattle.sat_base.specs.Members.{In}
use Rattle.gm_base.specs.Problem.{Problem}
use Rattle.gm_base.specs.declared.kind.Kind.{Kind}
use Rattle.gm_base.specs.declared.kind.Kind.TheVariants.{Conflict}
use Rattle.gm_base.specs.Minimal.{conflicts}
use Rattle.evidence_rec.specs.declared.record.Record.{Record}
use Rattle.evidence_rec.specs.Held.{is_held, same_kind, same_set, and_also}
use Rattle.evidence_rec.specs.Records.{kind_of, set_of}

-- the minimal conflicts that records hold, in the report's order
abbrev pub shown_conflicts : Problem → List Record → List (List ℕ)
shown_conflicts p records = filter (is_held records Conflict) (conflicts p)

-- the set that has this number in a list, from 1
pub record IsNumbered (sets : List (List ℕ)) (number : ℕ) (set : List ℕ) : Type 0 where
  pub before : List (List ℕ)
  pub behind : List (List ℕ)
  pub parts : sets ≡ before ++ set ∷ behind
  pub place : number ≡ length before + 1

-- one of the records, whose set is the conflict that has this number in the report's order
pub record IsNumberedRecord (p : Problem) (records : List Record) (number : ℕ) (found : Record) : Type 0 where
  pub held : In found records
  pub kind : kind_of found ≡ Conflict
  pub numbered : IsNumbered (shown_conflicts p records) number (set_of found)

-- ---- what is found

-- a record of this kind and this set
abbrev pub is_of : Kind → List ℕ → Record → Bool
is_of kind set r = and_also (same_kind (kind_of r) kind) (same_set (set_of r) set)

-- a record of a conflict with this set is found among them, or there is none
abbrev pub IsConflictOf : List Record → List ℕ → Option (Bor Record) → Type 0
IsConflictOf records set None = is_held records Conflict set ≡ false
IsConflictOf records set (Some found) = In found.now records × (is_of Conflict set found.now ≡ true)

-- the record of the conflict with this number is found, or there are fewer
abbrev pub IsNumberedIn : Problem → List Record → ℕ → Option (Bor Record) → Type 0
IsNumberedIn p records number None = length (shown_conflicts p records) < number
IsNumberedIn p records number (Some found) = IsNumberedRecord p records number found.now
