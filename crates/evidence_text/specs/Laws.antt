-- Laws of reading: lines of which something can be read are just those that write it, and what is written is read back.
use Rattle.std.specs.Prelude.{◌≡◌, ℕ, ◌+◌, ◌^◌, ◌<◌, ◌≤◌, true, List, [], ◌∷◌, ◌++◌, length, Option, Ok, IfSome}
use Rattle.std.specs.List.{AllByRecursion, flat_map}
use Rattle.sat_base.specs.Derivation.{Derivation, HasIds, max_id}
use Rattle.gm_base.specs.Problem.{Problem}
use Rattle.gm_base.specs.Explored.{Found}
use Rattle.evidence_rec.specs.declared.record.Record.{Record}
use Rattle.evidence_rec.specs.Records.{founds, IsAccepted, AllAccepted}
use Rattle.evidence_rec.specs.Seeding.{shows_all_explored}
use Rattle.evidence_rec.specs.Shorten.{shorten}
use Rattle.evidence_text.specs.declared.answer.Answer.{Answer}
use Rattle.evidence_text.specs.declared.answer.Answer.TheVariants as answer
use Rattle.evidence_text.specs.declared.version.Version.{Version}
use Rattle.evidence_text.specs.declared.version.Version.TheVariants.{Two}
use Rattle.evidence_text.specs.Text.{Line, head_line, record_lines, end_lines, evidence_text}
use Rattle.evidence_text.specs.Lines.{lines_of, unended}
use Rattle.evidence_text.specs.Reading.{Below, below, head_at, piece_at}
use Rattle.evidence_text.specs.Readable.{IsSmall, IsReadable, IsReadableProof, IsReadableEnd, HasRecordIds}

-- a record stands before the lines that are left then; or the end, with nothing behind it
abbrev pub PieceStands : Version → Problem → List ℕ → List Line → Answer → Below → Type 0
PieceStands version p rest ls (answer.Record r) b = IsReadable version p r × (ls ≡ record_lines r ++ b.lines)
PieceStands version p rest ls (answer.End closing) b = IsReadableEnd p closing × (ls ≡ end_lines closing) × (rest ≡ [])
PieceStands version p rest ls (answer.Offence o) b = Unit {0}

-- a piece that is read stands there
abbrev pub PiecesStand : Type 0
PiecesStand =
    (version : Version) (p : Problem) (rest : List ℕ) (at : ℕ) (ls : List Line) (a : Answer) (b : Below)
    → p.vars + p.groups < 2 ^ 64
    → piece_at version p rest at ls ≡ Ok (a, b)
    → PieceStands version p rest ls a b

-- a head that is read stands there
abbrev pub HeadsStand : Type 0
HeadsStand =
    (p : Problem) (at : ℕ) (ls : List Line) (version : Version) (b : Below)
    → head_at p at ls ≡ Ok (version, b)
    → ls ≡ head_line version p ∷ b.lines

-- ---- what is written is read back

-- the head, before any lines
abbrev pub HeadsAreRead : Type 0
HeadsAreRead =
    (version : Version) (p : Problem) (at : ℕ) (behind : List Line)
    → IsSmall p
    → head_at p at (head_line version p ∷ behind) ≡ Ok (version, below (at + 1) behind)

-- a record, before any lines
abbrev pub RecordsAreRead : Type 0
RecordsAreRead =
    (version : Version) (p : Problem) (r : Record) (rest : List ℕ) (at : ℕ) (behind : List Line)
    → IsSmall p
    → IsReadable version p r
    → piece_at version p rest at (record_lines r ++ behind) ≡ Ok (answer.Record r, below (at + length (record_lines r)) behind)

-- the end, with nothing behind it
abbrev pub EndsAreRead : Type 0
EndsAreRead =
    (version : Version) (p : Problem) (closing : Option Derivation) (at : ℕ)
    → IsSmall p
    → IsReadableEnd p closing
    → piece_at version p [] at (end_lines closing) ≡ Ok (answer.End closing, below (at + length (end_lines closing)) [])

-- these records are read here, one after another, and then this end
abbrev pub ReadsAll : Version → Problem → List ℕ → Below → List Record → Option Derivation → Type 0
ReadsAll version p rest b [] closing = (last : Below) × (piece_at version p rest b.at b.lines ≡ Ok (answer.End closing, last))
ReadsAll version p rest b (r ∷ rs) closing =
    (next : Below) × (piece_at version p rest b.at b.lines ≡ Ok (answer.Record r, next)) × ReadsAll version p rest next rs closing

-- a text passes as one of this version about the problem, with just these records and this end
abbrev pub IsRead : Version → Problem → List ℕ → List Record → Option Derivation → Type 0
IsRead version p text records closing =
    (b : Below) × (head_at p 1 (lines_of text) ≡ Ok (version, b)) × ReadsAll version p (unended text) b records closing

-- a text of this version can hold them
pub record CanHold (version : Version) (p : Problem) (rs : List Record) (end : Option Derivation) : Type 0 where
  pub small : IsSmall p
  pub records : AllByRecursion (IsReadable version p) rs
  pub closing : IsReadableEnd p end

-- the lines of a text are those that write it, and no bytes stand behind them
abbrev pub TextsAreTheirLines : Type 0
TextsAreTheirLines =
    (version : Version) (p : Problem) (records : List Record) (closing : Option Derivation)
    → CanHold version p records closing
    → (lines_of (evidence_text version p records closing) ≡ head_line version p ∷ (flat_map record_lines records ++ end_lines closing))
    × (unended (evidence_text version p records closing) ≡ [])

-- a whole text, however long it is
abbrev pub TextsAreRead : Type 0
TextsAreRead =
    (version : Version) (p : Problem) (records : List Record) (closing : Option Derivation)
    → CanHold version p records closing
    → IsRead version p (evidence_text version p records closing) records closing

-- no two versions, no two lists of records, and no two ends have one text
abbrev pub TextsDiffer : Type 0
TextsDiffer =
    (version another : Version) (p : Problem) (records others : List Record) (closing other : Option Derivation)
    → CanHold version p records closing
    → CanHold another p others other
    → evidence_text version p records closing ≡ evidence_text another p others other
    → (version ≡ another) × (records ≡ others) × (closing ≡ other)

-- ---- what is accepted can be written, in version 2

-- a record that is accepted with those before it, where their numbers are not above the greatest
abbrev pub AcceptedAreReadable : Type 0
AcceptedAreReadable =
    (p : Problem) (earlier : List Record) (r : Record)
    → length earlier ≤ max_id
    → IsAccepted p earlier r
    → HasRecordIds r
    → IsReadable Two p r

-- a derivation of the empty clause from block clauses
abbrev pub ClosingsAreReadable : Type 0
ClosingsAreReadable = (p : Problem) (found : List Found) (d : Derivation) → shows_all_explored p.groups found d ≡ true → HasIds d → IsReadableProof p.groups d

-- so a text of records, each accepted with those before it, and of what closes them, is read back
abbrev pub AcceptedAreRead : Type 0
AcceptedAreRead =
    (p : Problem) (records : List Record) (closing : Option Derivation)
    → IsSmall p
    → length records ≤ max_id
    → AllAccepted p records
    → AllByRecursion HasRecordIds records
    → IfSome closing (λ d. (shows_all_explored p.groups (founds records) d ≡ true) × HasIds d)
    → IsRead Two p (evidence_text Two p records closing) records closing

-- and what is written of them, each shortened behind those before it, is read back as that
abbrev pub ShortenedAreRead : Type 0
ShortenedAreRead =
    (p : Problem) (records : List Record) (closing : Option Derivation)
    → IsSmall p
    → length records ≤ max_id
    → AllAccepted p records
    → AllByRecursion HasRecordIds records
    → IfSome closing (λ d. (shows_all_explored p.groups (founds records) d ≡ true) × HasIds d)
    → IsRead Two p (evidence_text Two p (shorten records) closing) (shorten records) closing
