-- Laws of a salvage.
use Rattle.std.specs.Prelude.{◌≡◌, ◌^◌, ◌<◌, ◌++◌, ℕ, List, Option, length, map}
use Rattle.std.specs.List.{AllByRecursion}
use Rattle.gm_base.specs.Problem.{Problem}
use Rattle.evidence_rec.specs.declared.record.Record.{Record}
use Rattle.evidence_rec.specs.Records.{IsAcceptedAlone}
use Rattle.evidence_text.specs.Text.{record_text}
use Rattle.evidence_text.specs.Alone.{IsTextOf, written_of}
use Rattle.evidence_text.specs.Readable.{IsSmall, HasRecordIds}
use Rattle.disk_frames.specs.Frames.{HoldsTexts, frames}
use Rattle.gm_journal.specs.Following.{AreJournalled, texts_of}
use Rattle.gm_journal.specs.Salvage.{HoldsRecords, HoldsNoRecord}
use Rattle.gm_journal.specs.Entries.{OpeningView, EntryView}
use Rattle.gm_journal.specs.Histories.{kept_in, tried_in, IsLegal}
use Rattle.gm_journal.specs.Books.{Keeps, KeepsFront, HoldsFront}

abbrev pub SalvagedInOneWay : Type 0
SalvagedInOneWay =
    (p : Problem) (bytes : List ℕ) (records others : List Record) (gate place : ℕ) (last byte : Option ℕ)
    → HoldsRecords p bytes records gate last
    → HoldsRecords p bytes others place byte
    → (records ≡ others) × (gate ≡ place) × (last ≡ byte)

abbrev pub SalvagedAreNotForeign : Type 0
SalvagedAreNotForeign =
    (p : Problem) (bytes : List ℕ) (records : List Record) (gate at : ℕ) (last : Option ℕ)
    → HoldsRecords p bytes records gate last
    → ¬ HoldsNoRecord p bytes at

abbrev pub ForeignAtOnePlace : Type 0
ForeignAtOnePlace = (p : Problem) (bytes : List ℕ) (at place : ℕ) → HoldsNoRecord p bytes at → HoldsNoRecord p bytes place → at ≡ place

-- a disk that holds the texts of records, behind which anything may stand, is salvaged with just these
abbrev pub HeldTextsAreSalvaged : Type 0
HeldTextsAreSalvaged =
    (p : Problem) (bytes : List ℕ) (records : List Record)
    → IsSmall p
    → AreJournalled p records
    → AllByRecursion HasRecordIds records
    → AllByRecursion (λ r. length (record_text r) < 2 ^ 64) records
    → HoldsTexts (texts_of records) bytes
    → (last : Option ℕ) × HoldsRecords p bytes records (length (frames (texts_of records))) last

-- what was appended are the texts of records, each of which is accepted with none before it
abbrev pub AppendedAreOfRecords : Type 0
AppendedAreOfRecords =
    (o : OpeningView) (history : List EntryView)
    → IsLegal o history
    → (records : List Record) × (map written_of records ≡ tried_in history)
    × AllByRecursion (λ r. IsAcceptedAlone o.problem r × IsTextOf o.problem r (record_text r)) records

-- where the texts of these records were put behind the opening's, a salvage gives these records themselves
abbrev pub KeptTextsAreOfTheirRecords : Type 0
KeptTextsAreOfTheirRecords =
    (o : OpeningView) (records : List Record) (bytes : List ℕ)
    → AllByRecursion (λ r. IsTextOf o.problem r (record_text r)) records
    → Keeps o (map written_of records) bytes
    → (gate : ℕ) × (last : Option ℕ) × HoldsRecords o.problem bytes (o.records ++ records) gate last

-- and where a front part of them was, it gives so many of these records
abbrev pub FrontTextsAreOfTheirRecords : Type 0
FrontTextsAreOfTheirRecords =
    (o : OpeningView) (acknowledged history : List EntryView) (records : List Record) (bytes : List ℕ)
    → AllByRecursion (λ r. IsTextOf o.problem r (record_text r)) records
    → map written_of records ≡ tried_in history
    → KeepsFront o acknowledged history bytes
    → HoldsFront o.problem o.records records (length (kept_in acknowledged)) bytes
