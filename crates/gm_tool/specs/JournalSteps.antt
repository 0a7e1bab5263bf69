-- What each step of a listing with a journal promises, and what it hands to the next.
use Rattle.std.specs.Prelude.{◌≡◌, ◌≢◌, ◌⊎◌, ℕ, ◌+◌, ◌^◌, ◌<◌, Bool, true, false, List, [], length, All, Option, Some, None, IfSome}
use Rattle.gm_base.specs.Problem.{Problem}
use Rattle.gm_ports.specs.Faults.{Rose}
use Rattle.gm_ports.specs.DiskState.{DiskState, IsLawful, IsUnopened, Looks}
use Rattle.turn_lock.specs.Seats.{AreNew}
use Rattle.evidence_rec.specs.Asking.{OracleState}
use Rattle.evidence_rec.specs.Seeding.{new_engine}
use Rattle.evidence_rec.specs.declared.record.Record.{Record}
use Rattle.evidence_rec.specs.Records.{AllAccepted}
use Rattle.gm_journal.specs.declared.salvaging.Salvaged.{Salvaged}
use Rattle.lrat_steps.specs.Log.{LogStep}
use Rattle.map_core.specs.declared.closing.Closing.{Closing}
use Rattle.map_core.specs.declared.entry.Entry.{Entry}
use Rattle.gm_journal.specs.Histories.{has_failed}
use Rattle.gm_journal.specs.Salvage.{HoldsRecords}
use Rattle.worker_pool.specs.Workers.{IsFresh}
use Rattle.worker_pool.specs.Outcomes as pool
use Rattle.gm_words.specs.Reading.{Listing}
use Rattle.gm_words.specs.Requests.{text_of}
use Rattle.gm_words.specs.declared.request.Listing as code
use Rattle.gm_io.specs.declared.bounds.Bounds.{Bounds}
use Rattle.gm_io.specs.declared.ending.Enumerated.{Enumerated}
use Rattle.gm_io.specs.declared.ending.Ending.{Ending}
use Rattle.gm_io.specs.declared.ending.Ending.TheVariants.{Memory, JournalUnread, JournalRefused, JournalUnbegun, JournalCutOff}
use Rattle.gm_io.specs.Endings.{finish_of}
use Rattle.gm_io.specs.Lines.{foreign_line}
use Rattle.gm_io.specs.Outside.{Outside}
use Rattle.gm_tool.specs.declared.kept.Crew.{Crew}
use Rattle.gm_tool.specs.declared.kept.Pages.{Pages}
use Rattle.gm_tool.specs.declared.kept.Kept.{Kept}
use Rattle.gm_tool.specs.declared.list.Course.{Course}
use Rattle.gm_tool.specs.Closed.{IsLeft, learned_in, opening_for}
use Rattle.gm_tool.specs.Journaled.{HasLog, HasWholeLog, HoldsNew, IsBegun, IsForeignTo, IsLookedAt, IsNamed, IsSalvagedFrom}
use Rattle.gm_tool.specs.Steps.{Lists}

-- what is asked for, with a journal of this name
abbrev pub with_journal : code.Listing → List ℕ → Listing
with_journal l name =
    record { file = l.file.now; jobs = l.jobs; conflicts = l.conflicts; limit = l.limit; evidence = text_of l.evidence; resume = text_of l.resume; journal = Some name; focus = l.focus }

-- ---- opening

-- a journal of this name is opened, whose disk held this before, and had counted so many faults; and its records are read
pub record IsOpened {D : Type 0} (state : D → DiskState) (p : Problem) (held : Option (List ℕ)) (name : List ℕ) (faults : ℕ) (new : D) (s : Salvaged) : Type 0 where
  pub salvaged : IsSalvagedFrom p held s.records
  pub accepted : AllAccepted p s.records
  pub gate : s.gate + 1 < 2 ^ 64
  pub read : IfSome (state new).reads (λ bytes. HoldsRecords p bytes s.records s.gate s.last)
  pub quiet : (state new).faults ≡ faults
  pub stays : IsLookedAt state held new
  pub lawful : IsLawful (state stays.opened)
  pub named : IsNamed held name (state new)

-- the ending tells the place, or memory was wanting for its line
abbrev pub RefusesJournal : ℕ → Ending → Type 0
RefusesJournal at (JournalRefused line) = line.items ≡ foreign_line at
RefusesJournal at Memory = Unit {0}
RefusesJournal at _ = ⊥

-- or it could not be read, and nothing was written to it
abbrev pub StopsSalvaging : {D : Type 0} → (D → DiskState) → Problem → Option (List ℕ) → ℕ → D → Ending → Type 0
StopsSalvaging state p held faults new JournalUnread = Rose faults (state new).faults × IsLookedAt state held new
StopsSalvaging state p held faults new (JournalRefused line) = IsForeignTo p held (λ told. line.items ≡ told) × ((state new).faults ≡ faults) × IsLookedAt state held new
StopsSalvaging state p held faults new Memory = IsLookedAt state held new
StopsSalvaging state p held faults new _ = ⊥

-- or not be opened
abbrev pub StopsOpening : {D : Type 0} → (D → DiskState) → Problem → Option (List ℕ) → D → D → Ending → Type 0
StopsOpening state p held disk new e =
    ((e ≡ JournalUnread) × Rose (state disk).faults (state new).faults × IsUnopened (state disk) (state new))
    ⊎ StopsSalvaging state p held (state disk).faults new e

-- ---- enumerating

-- fresh oracles, one for each worker, and a map of which nothing is explored
pub record IsCrew (p : Problem) (b : Bounds) (crew : Crew) : Type 0 where
  pub count : length crew.oracles.items ≡ b.jobs
  pub fresh : All (λ o. IsFresh p o) crew.oracles.items
  pub map : crew.map ≡ new_engine p.groups

-- a journal that holds these records, and of which no seat has made a call
pub record IsReady {D : Type 0} (p : Problem) (first : List Record) (b : Bounds) (pages : Pages D) : Type 0 where
  pub begun : IsBegun p first b.jobs pages.journal.opening.faults pages.journal.opening
  pub seats : AreNew pages.journal b.jobs pages.seats.items

-- an enumeration is closed, whatever its verdict
pub record IsClosed (p : Problem) (first : List Record) (b : Bounds) (own : Enumerated) : Type 0 where
  pub left : pool.IsLeft (opening_for p first b) b.journal own.logs own.closing
  pub spent : own.spent ≡ learned_in own.logs

-- nothing is left of one where memory was wanting before it began
abbrev pub left_of : ℕ → List (List LogStep) → Option Closing → Option Enumerated
left_of spent logs None = None
left_of spent logs (Some closing) = Some (record { spent = spent; logs = logs; closing = closing })

-- what its board told
abbrev pub closing_in : Option Enumerated → Option Closing
closing_in None = None
closing_in (Some own) = Some own.closing

-- and its history, which has no entry where there was none
abbrev pub history_in : Option Closing → List Entry
history_in None = []
history_in (Some closing) = closing.history

-- else it is closed; and where the journal is whole no worker retired for it
pub record HasEnded (p : Problem) (first : List Record) (b : Bounds) (broken : Bool) (left : Option Enumerated) : Type 0 where
  pub closed : IfSome left (IsClosed p first b)
  pub whole : broken ≡ false → IfSome left (IsLeft p first b)

-- what is left of one that kept a journal, whose disk had counted so many faults and had this name
pub record IsKept {D : Type 0} (state : D → DiskState) (p : Problem) (first : List Record) (b : Bounds) (faults : ℕ) (name : Option (List ℕ)) (kept : Kept D) : Type 0 where
  pub left : HasEnded p first b kept.is_broken kept.left
  pub quiet : kept.is_broken ≡ false → (state kept.disk).faults ≡ faults
  pub rose : kept.is_broken ≡ true → Rose faults (state kept.disk).faults
  pub holds_new : IfSome (closing_in kept.left) (λ closing. HoldsNew p first closing (state kept.disk))
  pub logged : HasLog p first b.jobs faults (history_in (closing_in kept.left)) (state kept.disk)
  pub unfailed : kept.is_broken ≡ false → has_failed logged.log ≡ false
  pub named : (state kept.disk).name ≡ name

-- ---- listing

abbrev pub course_for : List Record → Bounds → Course
course_for first b = record { first = first; before = None; bounds = b; told = b }

-- the journal failed amid the enumeration of a problem; or it is listed; or memory was wanting
abbrev pub EndsKept : Problem → Bounds → Option (List ℕ) → List Record → Bool → Outside → Outside → Ending → Type 0
EndsKept p b asked first broken old new e =
    ((e ≡ Memory) × (new ≡ old))
    ⊎ ((left : Enumerated) × (e ≡ JournalCutOff left) × (broken ≡ true) × IsClosed p first b left × (new ≡ old))
    ⊎ ((broken ≡ false) × Lists p (course_for first b) asked old new e)

-- nothing was written to the disk, if it has a byte
abbrev pub StaysUnlessEmpty : {D : Type 0} → (D → DiskState) → D → D → Type 0
StaysUnlessEmpty state disk after = IfSome (state disk).reads (λ bytes. bytes ≢ [] → Looks (state disk) (state after))

-- memory was wanting before the enumeration, or behind it
abbrev pub LeavesLog : {D : Type 0} → (D → DiskState) → Problem → Bounds → List Record → D → D → Type 0
LeavesLog state p b first disk after =
    StaysUnlessEmpty state disk after ⊎ ((history : List Entry) × HasLog p first b.jobs (state disk).faults history (state after))

-- the journal failed where it was begun, or amid the enumeration, which is closed
abbrev pub Fails : {D : Type 0} → (D → DiskState) → Problem → Bounds → List Record → D → D → Ending → Type 0
Fails state p b first disk after e =
    ((e ≡ JournalUnbegun) × StaysUnlessEmpty state disk after)
    ⊎ ((left : Enumerated) × (e ≡ JournalCutOff left) × IsClosed p first b left × HasLog p first b.jobs (state disk).faults left.closing.history (state after))

-- it did not fail, and has what was new in the enumeration, of which this is told
pub record IsUnfailed {D : Type 0} (state : D → DiskState) (p : Problem) (b : Bounds) (first : List Record) (disk after : D) (told : Option Closing) : Type 0 where
  pub quiet : (state after).faults ≡ (state disk).faults
  pub history : List Entry
  pub logged : HasWholeLog p first b.jobs (state disk).faults history (state after)
  pub new : IfSome told (λ closing. (history ≡ closing.history) × HoldsNew p first closing (state after))

-- memory was wanting; or it failed; or it did not, and the problem is listed
abbrev pub KeepsCases : {D : Type 0} → (D → DiskState) → Problem → Bounds → Option (List ℕ) → List Record → D → D → Outside → Outside → Ending → Type 0
KeepsCases state p b asked first disk after old new e =
    ((e ≡ Memory) × (new ≡ old) × LeavesLog state p b first disk after)
    ⊎ (Rose (state disk).faults (state after).faults × (new ≡ old) × Fails state p b first disk after e)
    ⊎ (IsUnfailed state p b first disk after (finish_of e).closing × Lists p (course_for first b) asked old new e)

-- the same from the beginning of a journal that holds these records, on a disk whose name stays
abbrev pub KeepsFrom : {D : Type 0} → (D → DiskState) → Problem → Bounds → Option (List ℕ) → List Record → D → D → Outside → Outside → Ending → Type 0
KeepsFrom state p b asked first disk after old new e = ((state after).name ≡ (state disk).name) × KeepsCases state p b asked first disk after old new e

-- the same from the opening of one, as what held this
pub record KeepsOpened {D : Type 0} (state : D → DiskState) (p : Problem) (b : Bounds) (asked held : Option (List ℕ)) (name : List ℕ) (faults : ℕ) (after : D) (old new : Outside) (e : Ending) : Type 0 where
  pub first : List Record
  pub salvaged : IsSalvagedFrom p held first
  pub opened : D
  pub stays : IsLookedAt state held opened
  pub lawful : IsLawful (state stays.opened)
  pub named : IsNamed held name (state opened)
  pub quiet : (state opened).faults ≡ faults
  pub keeps : KeepsFrom state p b asked first opened after old new e

-- and from before that
abbrev pub Keeps : {D : Type 0} → (D → DiskState) → Problem → Bounds → Option (List ℕ) → List ℕ → D → D → Outside → Outside → Ending → Type 0
Keeps state p b asked name disk after old new e =
    (StopsOpening state p ((state disk).held name) disk after e × (new ≡ old))
    ⊎ KeepsOpened state p b asked ((state disk).held name) name (state disk).faults after old new e
