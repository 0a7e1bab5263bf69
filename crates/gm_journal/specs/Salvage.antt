-- What a salvage of records gives: those whose texts stand in the open frames from byte 0 on, up to the first closed gate; or
-- the first open gate behind which no whole frame with a next gate stands whose text may stand there.
use Rattle.std.specs.Prelude.{◌≡◌, ℕ, ◌+◌, ◌^◌, ◌<◌, List, [], Option, ⊤}
use Rattle.gm_base.specs.Problem.{Problem}
use Rattle.gm_ports.specs.Faults.{Rose}
use Rattle.evidence_rec.specs.declared.record.Record.{Record}
use Rattle.evidence_rec.specs.Records.{AllAccepted}
use Rattle.disk_frames.specs.Salvage.{IsSalvaged, IsForeign}
use Rattle.gm_journal.specs.Following.{MayFollow, AreJournalled, texts_of}
use Rattle.gm_journal.specs.declared.salvaging.JournalRead.{JournalRead}
use Rattle.gm_journal.specs.declared.salvaging.JournalRead.TheVariants.{Salvaged, Foreign, Failed, Memory}

-- the bytes are frames of the texts of these records up to this gate, which is closed; it is none only where there are no
-- bytes
abbrev pub HoldsRecords : Problem → List ℕ → List Record → ℕ → Option ℕ → Type 0
HoldsRecords p bytes records gate last = IsSalvaged (MayFollow p) [] bytes (texts_of records) records gate last

-- at this place, behind frames of records, stands the first open gate with no such frame
abbrev pub HoldsNoRecord : Problem → List ℕ → ℕ → Type 0
HoldsNoRecord p bytes at = IsForeign (MayFollow p) [] bytes at

-- what an answer says of the bytes that are told
abbrev pub Says : Problem → List ℕ → JournalRead → Type 0
Says p bytes (Salvaged s) = HoldsRecords p bytes s.records s.gate s.last
Says p bytes (Foreign at) = HoldsNoRecord p bytes at
Says p bytes Failed = ⊤
Says p bytes Memory = ⊤

-- what it says of the records, whatever the disk holds
abbrev pub SaysOfRecords : Problem → JournalRead → Type 0
SaysOfRecords p (Salvaged s) = AreJournalled p s.records
SaysOfRecords p (Foreign at) = ⊤
SaysOfRecords p Failed = ⊤
SaysOfRecords p Memory = ⊤

-- and so each is accepted with those before it
abbrev pub AreAccepted : Problem → JournalRead → Type 0
AreAccepted p (Salvaged s) = AllAccepted p s.records
AreAccepted p (Foreign at) = ⊤
AreAccepted p Failed = ⊤
AreAccepted p Memory = ⊤

-- a gate is a place of which the next is a place too
abbrev pub EndsWithin : JournalRead → Type 0
EndsWithin (Salvaged s) = s.gate + 1 < 2 ^ 64
EndsWithin (Foreign at) = at + 1 < 2 ^ 64
EndsWithin Failed = ⊤
EndsWithin Memory = ⊤

-- what it says of the counts of faults: `Failed` comes only where the count rose, and every other answer leaves it
abbrev pub ReadHasCause : ℕ → ℕ → JournalRead → Type 0
ReadHasCause before now (Salvaged s) = now ≡ before
ReadHasCause before now (Foreign at) = now ≡ before
ReadHasCause before now Failed = Rose before now
ReadHasCause before now Memory = now ≡ before
