-- What is kept of a journal from text to text.
use Rattle.std.specs.Prelude.{◌≡◌, ℕ, false, List, [], ◌∷◌, ◌++◌, Option, Some, None}
use Rattle.gm_base.specs.Problem.{Problem}
use Rattle.evidence_rec.specs.declared.record.Record.{Record}
use Rattle.evidence_rec.specs.declared.held.Held.{Held}
use Rattle.evidence_rec.specs.Records.{kind_of, set_of}
use Rattle.evidence_rec.specs.Basis.{Basis, basis_of}
use Rattle.evidence_rec.specs.Index.{holds, IsIndex}
use Rattle.gm_journal.specs.Following.{MayFollow}

-- the problem, and the records so far
pub record Judged : Type 0 where
  pub problem : Problem
  pub records : List Record

-- a checker of records about the problem, and the sets of those so far
pub record IsJudging (p : Problem) (records : List Record) (checker : Basis) (held : Held) : Type 0 where
  pub basis : checker ≡ basis_of p
  pub index : IsIndex held records

-- behind records of these sets the text may stand as that of this record, whose set is new; or it may not stand there
abbrev pub Judges : Problem → Held → List ℕ → Option Record → Type 0
Judges p held text (Some found) =
    (holds held (kind_of found) (set_of found) ≡ false)
    × ((records : List Record) → IsIndex held records → MayFollow p records text (records ++ found ∷ []))
Judges p held text None = (records next : List Record) → IsIndex held records → ¬ MayFollow p records text next
