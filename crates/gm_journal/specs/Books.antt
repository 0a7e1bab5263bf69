-- A journal as a book: what its disk has, and what a crash leaves of it.
use Rattle.std.specs.Prelude.{◌≡◌, ◌⊎◌, ◌↔◌, ℕ, ◌+◌, ◌^◌, ◌<◌, ◌≤◌, Bool, false, List, [], ◌∷◌, ◌++◌, length, map, take, Option, Some, IfSome, IsSome}
use Rattle.gm_base.specs.Problem.{Problem}
use Rattle.gm_base.specs.Explored.{Found}
use Rattle.gm_ports.specs.DiskState.{DiskState}
use Rattle.disk_frames.specs.Frames.{IsSettled}
use Rattle.disk_frames.specs.Salvage.{AreNext}
use Rattle.evidence_rec.specs.declared.record.Record.{Record}
use Rattle.evidence_rec.specs.declared.held.Held.{Held}
use Rattle.evidence_rec.specs.Index.{holds}
use Rattle.evidence_text.specs.Alone.{Written, written_of}
use Rattle.evidence_text.specs.Readable.{IsSmall}
use Rattle.gm_journal.specs.Following.{MayFollow, texts_of}
use Rattle.gm_journal.specs.Salvage.{HoldsRecords}
use Rattle.gm_journal.specs.Entries.{OpeningView, EntryView}
use Rattle.gm_journal.specs.Histories.{kept_in, tried_in, last_moment, founds_in, is_among, has_failed, count_in, IsLegal}
use Rattle.gm_journal.specs.Rooms.{seats_left}

-- a journal over a disk, which ends at this gate
pub record BookState (D : Type 0) : Type 0 where
  pub disk : D
  pub gate : ℕ
  pub opening : OpeningView
  pub history : List EntryView

-- a salvage of these bytes gives the opening's records, and then one for each of these texts, in order
pub record Keeps (o : OpeningView) (kept : List Written) (bytes : List ℕ) : Type 0 where
  pub records : List Record
  pub are : map written_of records ≡ kept
  pub gate : ℕ
  pub last : Option ℕ
  pub holds : HoldsRecords o.problem bytes (o.records ++ records) gate last

-- and maybe then one for this text too
abbrev pub KeepsWithOrWithout : OpeningView → List Written → Written → List ℕ → Type 0
KeepsWithOrWithout o kept w bytes = Keeps o kept bytes ⊎ Keeps o (kept ++ w ∷ []) bytes

-- a disk that tells, whose bytes up to the ending gate are the frames of the opening's records, each of which may stand
-- behind those before it, and then of one for each of these texts; and a crash now leaves what a read gives
pub record IsKept (disk : DiskState) (o : OpeningView) (kept : List Written) (gate : ℕ) : Type 0 where
  pub records : List Record
  pub are : map written_of records ≡ kept
  pub next : AreNext (MayFollow o.problem) [] (texts_of (o.records ++ records)) (o.records ++ records)
  pub settled : IsSettled disk (texts_of (o.records ++ records)) gate

-- so it is where the disk tells, and until an append failed
abbrev pub IsKeptOpen : DiskState → OpeningView → List EntryView → ℕ → Type 0
IsKeptOpen disk o history gate = has_failed history ≡ false → (bytes : List ℕ) → disk.reads ≡ Some bytes → IsKept disk o (kept_in history) gate

-- a salvage of these bytes gives the opening's records, and then one for each text of a front part of those that were appended in
-- a history, in their order. Among these are all that some entries put into the journal
pub record KeepsFront (o : OpeningView) (acknowledged history : List EntryView) (bytes : List ℕ) : Type 0 where
  pub more : List Written
  pub rest : List Written
  pub parts : tried_in history ≡ (kept_in acknowledged ++ more) ++ rest
  pub keeps : Keeps o (kept_in acknowledged ++ more) bytes

-- a salvage of these bytes gives the first records and then so many of the others, in their order; and no fewer than these
pub record HoldsFront (p : Problem) (first others : List Record) (least : ℕ) (bytes : List ℕ) : Type 0 where
  pub count : ℕ
  pub enough : least ≤ count
  pub within : count ≤ length others
  pub gate : ℕ
  pub last : Option ℕ
  pub holds : HoldsRecords p bytes (first ++ take count others) gate last

-- whatever failed, so it is of the disk as it reads, and of what a crash now leaves, with each text that was acknowledged
pub record IsWhole (disk : DiskState) (o : OpeningView) (history : List EntryView) : Type 0 where
  pub read : IfSome disk.reads (KeepsFront o history history)
  pub crash : (bytes : List ℕ) → disk.may_leave bytes → KeepsFront o history history bytes

-- the moment at which the first k entries were over
abbrev pub moment_after : OpeningView → List EntryView → ℕ → ℕ
moment_after o history k = last_moment o.moment (take k history)

-- and so it is of what a crash left at any moment since the first k entries were over, with each text that these acknowledged
pub record IsTraced (disk : DiskState) (o : OpeningView) (history : List EntryView) : Type 0 where
  pub passed : (k : ℕ) → k ≤ length history → moment_after o history k ≤ disk.moment
  pub since : (k : ℕ) (bytes : List ℕ) → k ≤ length history → disk.left_since (moment_after o history k) bytes → KeepsFront o (take k history) history bytes

-- the disk is the one that the journal was opened on, as far as the opening tells
pub record IsOpenedOn (disk : DiskState) (o : OpeningView) : Type 0 where
  pub faults : disk.faults ≡ o.faults
  pub name : disk.name ≡ o.name
  pub reads : disk.reads ≡ o.reads
  pub moment : disk.moment ≡ o.moment

-- what holds of a journal's disk behind these entries, whatever they were answered. It has the name that it had, and tells where it
-- told; and with no entry it is the one that the journal was opened on
pub record IsGoneOn (disk : DiskState) (o : OpeningView) (history : List EntryView) : Type 0 where
  pub name : disk.name ≡ o.name
  pub tells : IsSome disk.reads ↔ IsSome o.reads
  pub unused : history ≡ [] → IsOpenedOn disk o
  pub moment : disk.moment ≡ last_moment o.moment history
  pub traced : IsSome disk.reads → IsTraced disk o history

-- the sets that are held are those of the journal
pub record IsIndexOf (held : Held) (among : List Found) : Type 0 where
  pub at : (f : Found) → holds held f.kind f.set ≡ is_among among f

-- what always holds of the parts
pub record IsInOrder (disk : DiskState) (held : Held) (gate : ℕ) (closed : Bool) (o : OpeningView) (history : List EntryView) (capacity : ℕ) : Type 0 where
  pub small : IsSmall o.problem
  pub kept : IsKeptOpen disk o history gate
  pub gone_on : IsGoneOn disk o history
  pub index : closed ≡ false → IsIndexOf held (founds_in o history)
  pub closed_is : closed ≡ has_failed history
  pub count : disk.faults ≡ count_in o.faults history
  pub gate_fits : gate + 1 < 2 ^ 64
  pub is_legal : IsLegal o history
  -- room for one entry of each seat that has not ended
  pub room : length history + seats_left o.seats history ≤ capacity
