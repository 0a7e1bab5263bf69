-- What a listing with a journal tells: what each status says, and its cause.
use Rattle.std.specs.Prelude.{◌≡◌, ◌≢◌, ◌⊎◌, ℕ, ◌<◌, true, false, All, List, [], ◌∷◌, ◌++◌, length, map, Option, Some, None, IfSome, IsSome}
use Rattle.std.specs.List.{list_any, AllByRecursion}
use Rattle.sat_base.specs.Members.{In}
use Rattle.gm_base.specs.Problem.{Problem}
use Rattle.gm_base.specs.Explored.{Found}
use Rattle.gm_ports.specs.Faults.{Rose}
use Rattle.gm_ports.specs.DiskState.{DiskState, IsUnopened, Looks}
use Rattle.gm_ports.specs.FilesState.{ReadingLeaves, StaysAsTold}
use Rattle.gm_words.specs.Reading.{Listing}
use Rattle.evidence_rec.specs.declared.record.Record.{Record}
use Rattle.evidence_rec.specs.Records.{founds}
use Rattle.evidence_text.specs.Alone.{written_of}
use Rattle.map_core.specs.declared.entry.Entry.{Entry}
use Rattle.map_core.specs.declared.closing.Closing.{Closing}
use Rattle.map_core.specs.Own.{calls_of, new_in, brought_in, is_retirement}
use Rattle.turn_lock.specs.Calls.{calls_by}
use Rattle.gm_journal.specs.Books.{Keeps}
use Rattle.gm_journal.specs.Books as books
use Rattle.gm_journal.specs.Entries.{OpeningView, EntryView, who_of}
use Rattle.gm_journal.specs.Following.{AreJournalled}
use Rattle.gm_journal.specs.Histories.{has_failed, is_among, kept_in, tried_in, IsLegal}
use Rattle.gm_journal.specs.Salvage.{HoldsRecords, HoldsNoRecord}
use Rattle.worker_pool.specs.Pens.{HasWritten}
use Rattle.worker_pool.specs.Outcomes as pool
use Rattle.gm_io.specs.declared.bounds.Bounds.{Bounds}
use Rattle.gm_io.specs.declared.ending.Ending.{Ending}
use Rattle.gm_io.specs.declared.ending.Finish.{Finish}
use Rattle.gm_io.specs.Endings.{bare, error_line, finish_of, input_fault_line, journal_cut_line, journal_fault_line, line_of}
use Rattle.gm_io.specs.Input.{OfFile, ReadsIn, IsReadFor}
use Rattle.gm_io.specs.Judging.{AreAccepted, IsRefusal}
use Rattle.gm_io.specs.Lines.{foreign_line}
use Rattle.gm_io.specs.Outside.{NoneRose, Outside}
use Rattle.gm_tool.specs.Closed.{learned_in, opening_for}
use Rattle.gm_tool.specs.Listing.{IsListed, bounds_for}
use Rattle.gm_tool.specs.Outputs.{evidence_output}
use Rattle.gm_tool.specs.Run.{IsFaultFree, IsOutputFault, IsReportFault}
use Rattle.gm_tool.specs.Statuses.{IsAmong, IsPartial, IsReported, IsToldByStatus}

-- ---- what the journal holds

-- a journal of these records, as far as its bytes are told; and whatever they are, each record is accepted, and no two of one
-- kind have one set
pub record IsSalvagedFrom (p : Problem) (held : Option (List ℕ)) (first : List Record) : Type 0 where
  pub holds : IfSome held (λ bytes. (gate : ℕ) × (last : Option ℕ) × HoldsRecords p bytes first gate last)
  pub journalled : AreJournalled p first

-- or something else from this place on, and the line that tells it
pub record IsForeignTo (p : Problem) (held : Option (List ℕ)) (Gets : List ℕ → Type 0) : Type 0 where
  pub at : ℕ
  pub holds : IfSome held (λ bytes. HoldsNoRecord p bytes at)
  pub line : Gets (foreign_line at)

-- ---- what stays of it

-- The disk was opened as what held this, and nothing was written to it since: reads give that, and a crash leaves what one could
-- leave then
pub record IsLookedAt {D : Type 0} (state : D → DiskState) (held : Option (List ℕ)) (after : D) : Type 0 where
  pub opened : D
  pub held_is : (state opened).reads ≡ held
  pub looks : Looks (state opened) (state after)

-- so it is where it held any byte; an empty disk may have got its first gate
abbrev pub IsLookedAtUnlessEmpty : {D : Type 0} → (D → DiskState) → Option (List ℕ) → D → Type 0
IsLookedAtUnlessEmpty state held after = IfSome held (λ bytes. bytes ≢ [] → IsLookedAt state held after)

-- reads give bytes that have P, and so does a crash; where the disk tells
abbrev pub ReadsAndLeaves : DiskState → (List ℕ → Type 0) → Type 0
ReadsAndLeaves disk P = IfSome disk.reads (λ bytes. P bytes × ((left : List ℕ) → disk.may_leave left → P left))

-- where the disk told what this name held, it is the one of this name
abbrev pub IsNamed : Option (List ℕ) → List ℕ → DiskState → Type 0
IsNamed held name disk = IfSome held (λ _. disk.name ≡ Some name)

-- ---- what was appended to it

-- a journal about this problem, begun with these records for so many workers, whose disk had counted so many faults
pub record IsBegun (p : Problem) (first : List Record) (workers faults : ℕ) (o : OpeningView) : Type 0 where
  pub problem : o.problem ≡ p
  pub records : o.records ≡ first
  pub seats : o.seats ≡ workers
  pub counted : o.faults ≡ faults

-- What was appended to it by workers with this history at their board: each worker its new records, in their order
pub record IsLogOf (o : OpeningView) (workers : ℕ) (history : List Entry) (log : List EntryView) : Type 0 where
  pub is_legal : IsLegal o log
  pub named : All (λ (e : EntryView). e.who < workers) log
  pub written : (w : ℕ) → w < workers → HasWritten true (calls_of w history) (calls_by who_of w log)

-- the records that were appended, in their order: the log has their lines, and each is one that was posted and was new
pub record AreAppended (history : List Entry) (log : List EntryView) (records : List Record) : Type 0 where
  pub texts : map written_of records ≡ tried_in log
  pub brought : AllByRecursion (λ (r : Record). In r (brought_in history)) records

-- The journal's disk behind that: it is salvaged with the first records, and then with one for each append that was answered Ok,
-- in order, where none failed; and that is so where the disk's count of faults stayed
pub record HasLog (p : Problem) (first : List Record) (workers faults : ℕ) (history : List Entry) (disk : DiskState) : Type 0 where
  pub opening : OpeningView
  pub begun : IsBegun p first workers faults opening
  pub log : List EntryView
  pub log_of : IsLogOf opening workers history log
  pub unfailed : ¬ Rose faults disk.faults → has_failed log ≡ false
  pub whole : has_failed log ≡ false → ReadsAndLeaves disk (Keeps opening (kept_in log))
  -- whatever failed it is salvaged with a front part of what was appended, in which each is that was answered Ok
  pub front : IsSome disk.reads → books.IsWhole disk opening log
  -- these records were appended. It is salvaged with the first records and then with so many of these, in their order, with each
  -- that was answered Ok; and where none failed, these are all
  pub appended : List Record
  pub are : AreAppended history log appended
  pub holds : ReadsAndLeaves disk (books.HoldsFront p first appended (length (kept_in log)))
  pub all : has_failed log ≡ false → length (kept_in log) ≡ length appended

-- the same where none failed
pub record HasWholeLog (p : Problem) (first : List Record) (workers faults : ℕ) (history : List Entry) (disk : DiskState) : Type 0 where
  pub logged : HasLog p first workers faults history disk
  pub unfailed : has_failed logged.log ≡ false

-- ---- what it holds at the end

-- these bytes are salvaged with the records that a run began with, and then with those that were new in it, and no other
pub record IsJournalOf (p : Problem) (first : List Record) (history : List Entry) (bytes : List ℕ) : Type 0 where
  pub more : List Record
  pub gate : ℕ
  pub last : Option ℕ
  pub holds : HoldsRecords p bytes (first ++ more) gate last
  -- one of the later records is of a set exactly where this was new
  pub sets : (f : Found) → is_among (founds more) f ≡ is_among (new_in history) f
  -- and each is the record that was posted, of which none is missing
  pub brought : AllByRecursion (λ (r : Record). In r (brought_in history)) more
  pub none_missing : AllByRecursion (λ (r : Record). In r more) (brought_in history)
  -- no two of all of them are of one kind and one set
  pub journalled : AreJournalled p (first ++ more)

-- a disk that reads as these bytes has such a journal, and a crash leaves one
pub record HoldsJournal (p : Problem) (first : List Record) (history : List Entry) (disk : DiskState) (bytes : List ℕ) : Type 0 where
  pub read : IsJournalOf p first history bytes
  pub crash : (left : List ℕ) → disk.may_leave left → IsJournalOf p first history left

abbrev pub NoneRetired : List Entry → Type 0
NoneRetired history = list_any (λ (e : Entry). is_retirement e.reply) history ≡ false

-- So it is where the disk tells and no worker retired. One that wants memory for an append retires, and its set is in no journal.
-- Another may find then that nothing is left, so that the verdict is Complete all the same
abbrev pub HoldsNew : Problem → List Record → Closing → DiskState → Type 0
HoldsNew p first closing disk = NoneRetired closing.history → IfSome disk.reads (HoldsJournal p first closing.history disk)

-- ---- what a status says

-- the file is a text of this problem, narrowed where some groups are in focus, which was listed from the records of the journal of
-- this name. The disk was this one, and is that one now
pub record IsListedOn (l : Listing) (name : List ℕ) (disk after : DiskState) (old new : Outside) (Gets : List ℕ → Type 0) (finish : Finish) : Type 0 where
  pub problem : Problem
  pub reads : OfFile (old.files.held l.file) (IsReadFor l.focus l.evidence None problem new.files.unread)
  pub first : List Record
  pub salvaged : IsSalvagedFrom problem (disk.held name) first
  -- it is the one of that name
  pub named : IsNamed (disk.held name) name after
  pub listed : IsListed problem first (bounds_for l) finish.logs l.evidence old new Gets finish
  -- the disk did not fail
  pub quiet : after.faults ≡ disk.faults
  -- nor did an append, so the journal has all records that were appended
  pub logged : HasWholeLog problem first l.jobs disk.faults listed.closing.history after
  -- the journal has each new set, where no worker retired; and none did where a bound was reached
  pub holds_new : HoldsNew problem first listed.closing after
  pub none_retired : IsPartial finish.status → NoneRetired listed.closing.history

-- the enumeration is closed, whatever its verdict
pub record IsStopped (p : Problem) (first : List Record) (b : Bounds) (faults : ℕ) (after : DiskState) (finish : Finish) : Type 0 where
  pub closing : Closing
  pub told : finish.closing ≡ Some closing
  pub left : pool.IsLeft (opening_for p first b) b.journal finish.logs closing
  pub logged : HasLog p first b.jobs faults closing.history after

-- The journal's disk failed, and nothing else was written: where it was begun, which tells nothing of an enumeration, or in one, which
-- is closed
pub record IsJournalFault {D : Type 0} (state : D → DiskState) (l : Listing) (name : List ℕ) (disk after : D) (old new : Outside) (Gets : List ℕ → Type 0) (finish : Finish) : Type 0 where
  pub problem : Problem
  pub reads : OfFile (old.files.held l.file) (λ text. ReadsIn l.focus text problem)
  pub first : List Record
  pub salvaged : IsSalvagedFrom problem ((state disk).held name) first
  pub named : IsNamed ((state disk).held name) name (state after)
  pub rose : Rose (state disk).faults (state after).faults
  pub line : Gets journal_cut_line
  pub silent : new.got ≡ old.got
  pub leaves : ReadingLeaves old.files new.files
  pub stopped : ((finish ≡ bare 7) × IsLookedAtUnlessEmpty state ((state disk).held name) after) ⊎ IsStopped problem first (bounds_for l) (state disk).faults (state after) finish

-- the journal could not be opened, or not be read, and nothing was written to it
pub record IsJournalUnread {D : Type 0} (state : D → DiskState) (l : Listing) (held : Option (List ℕ)) (disk after : D) (old : Outside) (Gets : List ℕ → Type 0) : Type 0 where
  pub problem : Problem
  pub reads : OfFile (old.files.held l.file) (λ text. ReadsIn l.focus text problem)
  pub rose : Rose (state disk).faults (state after).faults
  pub line : Gets journal_fault_line
  pub stays : IsUnopened (state disk) (state after) ⊎ IsLookedAt state held after

-- nor the file; then the disk was not touched
pub record IsInputFault {D : Type 0} (disk after : D) (old new : Outside) (Gets : List ℕ → Type 0) : Type 0 where
  pub rose : Rose old.files.read_faults new.files.read_faults
  pub line : Gets input_fault_line
  pub untouched : after ≡ disk

-- what the journal's disk holds is no journal about the problem of the file, and it holds that still
pub record IsJournalRefusal {D : Type 0} (state : D → DiskState) (l : Listing) (held : Option (List ℕ)) (after : D) (old : Outside) (Gets : List ℕ → Type 0) : Type 0 where
  pub problem : Problem
  pub reads : OfFile (old.files.held l.file) (λ text. ReadsIn l.focus text problem)
  pub foreign : IsForeignTo problem held Gets
  pub stays : IsLookedAt state held after

-- memory was wanting for a journal that was opened: before it was begun, or later, where all is salvaged that was appended, unless
-- its disk failed
pub record IsJournalLeft {D : Type 0} (state : D → DiskState) (l : Listing) (name : List ℕ) (disk after : D) : Type 0 where
  pub problem : Problem
  pub first : List Record
  pub salvaged : IsSalvagedFrom problem ((state disk).held name) first
  pub named : IsNamed ((state disk).held name) name (state after)
  pub history : List Entry
  pub logged : HasLog problem first l.jobs (state disk).faults history (state after)

-- memory was wanting: the disk was not touched, or opened and not written to, or it has a journal
abbrev pub LeavesJournal : {D : Type 0} → (D → DiskState) → Listing → List ℕ → D → D → Type 0
LeavesJournal state l name disk after = (after ≡ disk) ⊎ IsLookedAtUnlessEmpty state ((state disk).held name) after ⊎ IsJournalLeft state l name disk after

-- a listing with a journal of this name, on a disk that was this one and is that one
pub record IsJournaled {D : Type 0} (state : D → DiskState) (l : Listing) (name : List ℕ) (disk after : D) (old new : Outside) (Gets : List ℕ → Type 0) (finish : Finish) : Type 0 where
  pub statuses : IsAmong (0 ∷ 3 ∷ 4 ∷ 5 ∷ 6 ∷ 7 ∷ 8 ∷ 10 ∷ []) finish.status
  pub learned : finish.spent ≡ learned_in finish.logs
  -- before an enumeration nothing is told of one, and no output was opened
  pub before : IsAmong (5 ∷ 6 ∷ 10 ∷ []) finish.status → (finish ≡ bare finish.status) × ReadingLeaves old.files new.files
  pub silent : IsAmong (5 ∷ 6 ∷ 8 ∷ 10 ∷ []) finish.status → new.got ≡ old.got
  -- no fault is dropped, of the disk neither
  pub no_fault_dropped : IsAmong (0 ∷ 3 ∷ 4 ∷ 5 ∷ 10 ∷ []) finish.status → IsFaultFree old new × ((state after).faults ≡ (state disk).faults)
  -- each status has its cause; the file is judged before the disk is touched
  pub refused : finish.status ≡ 5 → IsRefusal (old.files.held l.file) Gets × (after ≡ disk)
  pub read_fault : finish.status ≡ 6 → IsInputFault disk after old new Gets ⊎ IsJournalUnread state l ((state disk).held name) disk after old Gets
  pub journal_refused : finish.status ≡ 10 → IsJournalRefusal state l ((state disk).held name) after old Gets
  pub write_fault : finish.status ≡ 7 → IsJournalFault state l name disk after old new Gets finish
      ⊎ (IsListedOn l name (state disk) (state after) old new Gets finish × (IsReportFault Gets old new ⊎ IsOutputFault (evidence_output l.evidence) Gets old new))
  pub listed : IsReported finish.status → IsListedOn l name (state disk) (state after) old new Gets finish
  pub memory : finish.status ≡ 8 → (ReadingLeaves old.files new.files × (finish ≡ bare 8) × LeavesJournal state l name disk after) ⊎ IsListedOn l name (state disk) (state after) old new Gets finish
  pub error_line : IsToldByStatus finish.status → Gets (error_line (bounds_for l) finish.status)
  -- where the file is accepted, and no fault was met, of the disk neither, no refusal of the file and no fault is told
  pub accepted : NoneRose old new → ¬ Rose (state disk).faults (state after).faults → AreAccepted old.files.held l.file l.focus None → IsAmong (0 ∷ 3 ∷ 4 ∷ 8 ∷ 10 ∷ []) finish.status
  -- no output is opened that is not asked for, and no name changes but that of the evidence
  pub unasked : (evidence_output l.evidence).names ≡ [] → ReadingLeaves old.files new.files
  pub names : (other : List ℕ) → ¬ In other (evidence_output l.evidence).names → StaysAsTold (old.files.held other) (new.files.held other)

-- the same of a run before its line is written
abbrev pub EndsJournaled : {D : Type 0} → (D → DiskState) → Listing → List ℕ → D → D → Outside → Outside → Ending → Type 0
EndsJournaled state l name disk after old new ending = IsJournaled state l name disk after old new (λ line. line_of ending ≡ line) (finish_of ending)
