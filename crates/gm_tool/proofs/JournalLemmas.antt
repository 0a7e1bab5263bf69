-- What the steps of a listing with a journal promise, said of a whole run.
use Rattle.std.proofs.Common.{◌≡◌, ◌≢◌, ◌⊎◌, ℕ, true, false, List, [], ◌∷◌, Option, Some, None, inl, inr, ap, sym, subst, refl, ◌∙◌, arith}
use Rattle.std.specs.Prelude.{◌+◌, ◌^◌, ◌<◌, ◌++◌, IfSome}
use Rattle.std.proofs.lemmas.Bool.{false≢true}
use Rattle.std.proofs.lemmas.Option.{same_Some}
use Rattle.sat_base.specs.Members.{In}
use Rattle.gm_base.specs.Problem.{Problem}
use Rattle.gm_ports.specs.Faults.{Rose}
use Rattle.gm_ports.specs.DiskState.{DiskState, IsLawful, IsOpenAs, IsUnopened, Looks}
use Rattle.gm_ports.specs.FilesState.{FilesState, ReadingLeaves, StaysAsTold}
use Rattle.gm_words.specs.Reading.{Asked, Listing, listing, checking, drilling, exporting, asking, carrying}
use Rattle.evidence_rec.specs.declared.record.Record.{Record}
use Rattle.evidence_rec.specs.Records.{AllAccepted}
use Rattle.map_core.specs.declared.closing.Closing.{Closing}
use Rattle.map_core.specs.declared.entry.Entry.{Entry}
use Rattle.disk_frames.specs.Frames.{frames}
use Rattle.disk_frames.specs.Salvage.{first_of}
use Rattle.disk_frames.specs.Starting.{IsReadied}
use Rattle.gm_journal.specs.declared.salvaging.Salvaged.{Salvaged}
use Rattle.gm_journal.specs.Following.{AreJournalled}
use Rattle.gm_journal.specs.Salvage.{HoldsRecords, HoldsNoRecord}
use Rattle.gm_io.specs.declared.bounds.Bounds.{Bounds}
use Rattle.gm_io.specs.declared.ending.Enumerated.{Enumerated}
use Rattle.gm_io.specs.declared.ending.Ending.{Ending}
use Rattle.gm_io.specs.declared.ending.Ending.TheVariants.{Refused, ReadFault, Memory, JournalUnread, JournalRefused, JournalUnbegun, JournalCutOff}
use Rattle.gm_io.specs.declared.ending.Finish.{Finish}
use Rattle.gm_io.specs.Endings.{bare, after, error_line, finish_of, line_of, input_fault_line, journal_cut_line, journal_fault_line, report_cut_line}
use Rattle.gm_io.specs.Input.{OfFile, ReadsIn, IsReadAs, IsReadFor}
use Rattle.gm_io.specs.Judging.{IsRefusal}
use Rattle.gm_io.specs.Outside.{Outside, outside}
use Rattle.gm_io.specs.Refusals.{refusal_line}
use Rattle.gm_io.specs.Resuming.{AreGoodFirst}
use Rattle.gm_io.specs.Beginnings.{StopsReading}
use Rattle.gm_io.specs.Taking.{stays-same}
use Rattle.gm_io.proofs.ReadingLemmas.{file-by, read-for}
use Rattle.gm_tool.specs.Closed.{opening_for}
use Rattle.gm_tool.specs.Journaled.{HasLog, HasWholeLog, HoldsNew, IsJournaled, IsLookedAt, IsLookedAtUnlessEmpty, IsNamed, IsSalvagedFrom, IsForeignTo, IsListedOn, IsStopped, IsJournalFault, IsJournalLeft, IsJournalUnread, IsInputFault, IsJournalRefusal, LeavesJournal, NoneRetired, EndsJournaled}
use Rattle.gm_tool.specs.declared.kept.Kept.{Kept}
use Rattle.gm_tool.specs.JournalSteps.{IsClosed, IsKept, IsOpened, IsUnfailed, EndsKept, Fails, Keeps, KeepsCases, KeepsFrom, KeepsOpened, LeavesLog, RefusesJournal, StaysUnlessEmpty, StopsOpening, StopsSalvaging, closing_in, course_for, history_in}
use Rattle.gm_tool.specs.Listing.{IsListed, bounds_for}
use Rattle.gm_tool.specs.Outputs.{evidence_output}
use Rattle.gm_tool.specs.Run.{IsOutputFault, IsReportFault, IsRun}
use Rattle.gm_tool.specs.Statuses.{IsAmong, IsFaultless, IsPartial, IsSilent, IsReported, IsToldByStatus}
use Rattle.gm_tool.specs.Steps.{Lists}
use Rattle.gm_tool.specs.Words.{EndsAs, EndsWith, ListsBy, journal_in}
use Rattle.gm_tool.proofs.AcceptedLemmas.{not_refused}
use Rattle.gm_tool.proofs.GetsLemmas.{listed-gets, refusal}
use Rattle.gm_tool.proofs.RunLemmas.{memory-at_once}
use Rattle.gm_tool.proofs.SalvageLemmas.{none-retired}
use Rattle.gm_tool.proofs.StatusLemmas.{among-by}
use Rattle.gm_tool.proofs.WrittenLemmas.{ListedLine, listed_finish, listed-fits, listed-logs, listed-run, is-listed, among-fits, same-unasked}
use Rattle.gm_ports.proofs.Moments.{Looks-none, Looks-then}
use Rattle.gm_ports.proofs.ToldLemmas.{ReadingLeaves-nothing}

-- ---- a listing is one with a journal, or it is not

module _ {D : Type 0} (state : D → DiskState) (disk after : D) (old new : Outside) (e : Ending) where
  pub lists-plain : (l : Listing) → l.journal ≡ None → after ≡ disk → EndsAs (Some (listing l)) old new e → EndsWith state (Some (listing l)) disk after old new e
  lists-plain l none same h = subst (λ j. ListsBy state j l disk after old new e) (sym none) (same, h)

  pub lists-journaled : (l : Listing) (name : List ℕ) → l.journal ≡ Some name → EndsJournaled state l name disk after old new e → EndsWith state (Some (listing l)) disk after old new e
  lists-journaled l name named h = subst (λ j. ListsBy state j l disk after old new e) (sym named) h

  -- a command without a journal leaves the disk
  pub without : (asked : Option Asked) → journal_in asked ≡ None → EndsWith state asked disk after old new e → (after ≡ disk) × EndsAs asked old new e
  without None none h = h
  without (Some (listing l)) none h = subst (λ j. ListsBy state j l disk after old new e) none h
  without (Some (checking c)) none h = h
  without (Some (drilling d)) none h = h
  without (Some (exporting x)) none h = h
  without (Some (asking a)) none h = h
  without (Some (carrying c)) none h = h

  -- and one with a journal tells of it
  pub with : (asked : Option Asked) (l : Listing) (name : List ℕ) → asked ≡ Some (listing l) → l.journal ≡ Some name → EndsWith state asked disk after old new e
      → EndsJournaled state l name disk after old new e
  with asked l name is named h =
      let k : EndsWith state (Some (listing l)) disk after old new e = subst (λ a. EndsWith state a disk after old new e) is h in
      subst (λ j. ListsBy state j l disk after old new e) named k

-- ---- what is told

-- the same fact of what is told
some-by : {A : Type 0} (o : Option A) (P Q : A → Type 0) → ((a : A) → P a → Q a) → IfSome o P → IfSome o Q
some-by None P Q f h = tt
some-by (Some a) P Q f h = f a h

if-any : {A : Type 0} (o : Option A) (P : A → Type 0) → ((a : A) → P a) → IfSome o P
if-any None P f = tt
if-any (Some a) P f = f a

-- a disk that was opened, and was only looked at since
looked-on : {D : Type 0} (state : D → DiskState) (held : Option (List ℕ)) (mid now : D) (at : IsLookedAt state held mid) → IsLawful (state at.opened) → Looks (state mid) (state now)
    → IsLookedAt state held now
looked-on state held mid now at lawful looks =
    record { opened = at.opened; held_is = at.held_is; looks = Looks-then (state at.opened) (state mid) (state now) lawful at.looks looks }

unless-empty : {D : Type 0} (state : D → DiskState) (held : Option (List ℕ)) (mid now : D) (at : IsLookedAt state held mid) → IsLawful (state at.opened) → StaysUnlessEmpty state mid now
    → IsLookedAtUnlessEmpty state held now
unless-empty state held mid now at lawful stays =
    some-by held (λ bytes. bytes ≢ [] → Looks (state mid) (state now)) (λ bytes. bytes ≢ [] → IsLookedAt state held now) (λ bytes f some. looked-on state held mid now at lawful (f some))
    (subst (λ o. IfSome o (λ bytes. bytes ≢ [] → Looks (state mid) (state now))) (at.looks.reads ∙ at.held_is) stays)

-- ---- what stopped it before the enumeration

module _ {D : Type 0} (state : D → DiskState) (l : Listing) (name : List ℕ) (disk now : D) (old new : FilesState) (got : Option (List ℕ)) (faults : ℕ) (reads : ReadingLeaves old new) where
  stopped-by : (Gets : List ℕ → Type 0) (status : ℕ) → IsAmong (5 ∷ 6 ∷ 7 ∷ 8 ∷ 10 ∷ []) status
      → (IsAmong (5 ∷ 10 ∷ []) status → (new.read_faults ≡ old.read_faults) × ((state now).faults ≡ (state disk).faults))
      → (status ≡ 5 → IsRefusal (old.held l.file) Gets × (now ≡ disk))
      → (status ≡ 6 → IsInputFault disk now (outside old got faults) (outside new got faults) Gets ⊎ IsJournalUnread state l ((state disk).held name) disk now (outside old got faults) Gets)
      → (status ≡ 10 → IsJournalRefusal state l ((state disk).held name) now (outside old got faults) Gets)
      → (status ≡ 7 → IsJournalFault state l name disk now (outside old got faults) (outside new got faults) Gets (bare status))
      → (status ≡ 8 → LeavesJournal state l name disk now)
      → (IsToldByStatus status → Gets (error_line (bounds_for l) status))
      → IsJournaled state l name disk now (outside old got faults) (outside new got faults) Gets (bare status)
  stopped-by Gets status among quiet five six ten seven left line = record {
    statuses = among-by (IsAmong (0 ∷ 3 ∷ 4 ∷ 5 ∷ 6 ∷ 7 ∷ 8 ∷ 10 ∷ [])) (5 ∷ 6 ∷ 7 ∷ 8 ∷ 10 ∷ []) status among (refl, (refl, (refl, (refl, (refl, tt)))));
    learned = refl;
    before = λ _. (refl, reads);
    silent = λ _. refl;
    no_fault_dropped =
        λ none.
        let q = quiet
        (among-by (λ s. IsAmong (0 ∷ 3 ∷ 4 ∷ 5 ∷ 10 ∷ []) s → IsAmong (5 ∷ 10 ∷ []) s) (5 ∷ 6 ∷ 7 ∷ 8 ∷ 10 ∷ []) status among
        ((λ _. refl), ((λ t. absurd (false≢true t)), ((λ t. absurd (false≢true t)), ((λ t. absurd (false≢true t)), ((λ _. refl), tt))))) none) in
        (record { reads = q.0; writes = reads.write_faults; report = refl }, q.1);
    refused = five;
    read_fault = six;
    journal_refused = ten;
    write_fault = λ e. inl (seven e);
    listed = λ r. absurd (among-by (λ s. IsReported s → ⊥) (5 ∷ 6 ∷ 7 ∷ 8 ∷ 10 ∷ []) status among (false≢true, (false≢true, (false≢true, (false≢true, (false≢true, tt))))) r);
    memory = λ eight. inl (reads, ap bare eight, left eight);
    error_line = line;
    accepted =
        λ none still ok.
        among-by (λ s. s ≢ 5 → s ≢ 6 → s ≢ 7 → IsAmong (0 ∷ 3 ∷ 4 ∷ 8 ∷ 10 ∷ []) s) (5 ∷ 6 ∷ 7 ∷ 8 ∷ 10 ∷ []) status among
        ((λ f s t. absurd (f refl)), ((λ f s t. absurd (s refl)), ((λ f s t. absurd (t refl)), ((λ f s t. refl), ((λ f s t. refl), tt)))))
        (λ e. let h = (five e).0 in not_refused old.held l.file l.focus None h.offence ok h.first)
        (λ e. elim (six e) [ inl input ↦ none.0 input.rose | inr unread ↦ still unread.rose ])
        (λ e. still (seven e).rose);
    unasked = λ _. reads;
    names = λ other out. subst (λ held. StaysAsTold (old.held other) (held other)) (sym reads.names) (stays-same (old.held other));
  }

  -- what stopped the reading of the file; then the disk was not touched
  pub journaled-stopped : (e : Ending) → StopsReading l.file old new e → now ≡ disk → EndsJournaled state l name disk now (outside old got faults) (outside new got faults) e
  journaled-stopped (Refused line) h same =
      stopped-by (λ told. line.items ≡ told) 5 refl (λ _. (h.0, ap (λ d. (state d).faults) same)) (λ _. (h.1, same)) (λ e. absurd (omega arith)) (λ e. absurd (omega arith))
      (λ e. absurd (omega arith)) (λ e. absurd (omega arith)) (λ t. absurd (false≢true t))
  journaled-stopped ReadFault h same =
      stopped-by (λ told. input_fault_line ≡ told) 6 refl (λ t. absurd (false≢true t)) (λ e. absurd (omega arith))
      (λ _. inl (record { rose = h; line = refl; untouched = same })) (λ e. absurd (omega arith)) (λ e. absurd (omega arith)) (λ e. absurd (omega arith)) (λ t. absurd (false≢true t))
  journaled-stopped Memory h same =
      stopped-by (λ told. line_of Memory ≡ told) 8 refl (λ t. absurd (false≢true t)) (λ e. absurd (omega arith)) (λ e. absurd (omega arith)) (λ e. absurd (omega arith))
      (λ e. absurd (omega arith)) (λ _. inl same) (λ _. refl)
  journaled-stopped _ h same = absurd h

  pub journaled-memory : LeavesJournal state l name disk now → EndsJournaled state l name disk now (outside old got faults) (outside new got faults) Memory
  journaled-memory left =
      stopped-by (λ told. line_of Memory ≡ told) 8 refl (λ t. absurd (false≢true t)) (λ e. absurd (omega arith)) (λ e. absurd (omega arith)) (λ e. absurd (omega arith))
      (λ e. absurd (omega arith)) (λ _. left) (λ _. refl)

  module _ (p : Problem) (quiet : new.read_faults ≡ old.read_faults) (read : OfFile (old.held l.file) (λ text. ReadsIn l.focus text p)) where
    -- what stopped the opening of the journal
    journaled-unread : Rose (state disk).faults (state now).faults → IsUnopened (state disk) (state now) ⊎ IsLookedAt state ((state disk).held name) now
        → EndsJournaled state l name disk now (outside old got faults) (outside new got faults) JournalUnread
    journaled-unread rose stays =
        stopped-by (λ told. journal_fault_line ≡ told) 6 refl (λ t. absurd (false≢true t)) (λ e. absurd (omega arith))
        (λ _. inr (record { problem = p; reads = read; rose = rose; line = refl; stays = stays })) (λ e. absurd (omega arith)) (λ e. absurd (omega arith)) (λ e. absurd (omega arith))
        (λ t. absurd (false≢true t))

    journaled-opened : (e : Ending) → StopsSalvaging state p ((state disk).held name) (state disk).faults now e
        → EndsJournaled state l name disk now (outside old got faults) (outside new got faults) e
    journaled-opened JournalUnread h = journaled-unread h.0 (inr h.1)
    journaled-opened (JournalRefused line) h =
        stopped-by (λ told. line.items ≡ told) 10 refl (λ _. (quiet, h.1)) (λ e. absurd (omega arith)) (λ e. absurd (omega arith))
        (λ _. record { problem = p; reads = read; foreign = h.0; stays = h.2 }) (λ e. absurd (omega arith)) (λ e. absurd (omega arith)) (λ t. absurd (false≢true t))
    journaled-opened Memory h = journaled-memory (inr (inl (if-any ((state disk).held name) (λ bytes. bytes ≢ [] → IsLookedAt state ((state disk).held name) now) (λ bytes _. h))))
    journaled-opened _ h = absurd h

    pub journaled-unopened : (e : Ending) → StopsOpening state p ((state disk).held name) disk now e → EndsJournaled state l name disk now (outside old got faults) (outside new got faults) e
    journaled-unopened e (inl (unread, rose, stays)) =
        subst (EndsJournaled state l name disk now (outside old got faults) (outside new got faults)) (sym unread) (journaled-unread rose (inl stays))
    journaled-unopened e (inr stops) = journaled-opened e stops

    -- the journal could not be begun
    pub journaled-unbegun : (first : List Record) → IsSalvagedFrom p ((state disk).held name) first → Rose (state disk).faults (state now).faults
        → IsNamed ((state disk).held name) name (state now) → IsLookedAtUnlessEmpty state ((state disk).held name) now → EndsJournaled state l name disk now (outside old got faults) (outside new got faults) JournalUnbegun
    journaled-unbegun first salvaged rose named stays =
        stopped-by (λ told. journal_cut_line ≡ told) 7 refl (λ t. absurd (false≢true t)) (λ e. absurd (omega arith)) (λ e. absurd (omega arith)) (λ e. absurd (omega arith))
        (λ _.
        record { problem = p; reads = read; first = first; salvaged = salvaged; named = named; rose = rose; line = refl; silent = refl; leaves = reads; stopped = inl (refl, stays) })
        (λ e. absurd (omega arith)) (λ t. absurd (false≢true t))

    -- it failed amid the enumeration
    pub journaled-cut : (first : List Record) (left : Enumerated) → IsSalvagedFrom p ((state disk).held name) first → Rose (state disk).faults (state now).faults
        → IsNamed ((state disk).held name) name (state now) → IsClosed p first (bounds_for l) left → HasLog p first l.jobs (state disk).faults left.closing.history (state now)
        → EndsJournaled state l name disk now (outside old got faults) (outside new got faults) (JournalCutOff left)
    journaled-cut first left salvaged rose named closed logged = record {
      statuses = refl;
      learned = closed.spent;
      before = λ t. absurd (false≢true t);
      silent = λ t. absurd (false≢true t);
      no_fault_dropped = λ t. absurd (false≢true t);
      refused = λ e. absurd (omega arith);
      read_fault = λ e. absurd (omega arith);
      journal_refused = λ e. absurd (omega arith);
      write_fault =
          λ _.
          inl
          (record {
            problem = p;
            reads = read;
            first = first;
            salvaged = salvaged;
            named = named;
            rose = rose;
            line = refl;
            silent = refl;
            leaves = reads;
            stopped = inr (record { closing = left.closing; told = refl; left = closed.left; logged = logged });
          });
      listed = λ t. absurd (false≢true t);
      memory = λ e. absurd (omega arith);
      error_line = λ t. absurd (false≢true t);
      accepted = λ none still ok. absurd (still rose);
      unasked = λ _. reads;
      names = λ other out. subst (λ held. StaysAsTold (old.held other) (held other)) (sym reads.names) (stays-same (old.held other));
    }

-- want of memory before the words are read
pub memory-with : {D : Type 0} (state : D → DiskState) (asked : Option Asked) (disk : D) (o : Outside) → EndsWith state asked disk disk o o Memory
memory-with state None disk o = (refl, memory-at_once None o)
memory-with state (Some (listing l)) disk o = by l.journal refl
  where
    by : (j : Option (List ℕ)) → l.journal ≡ j → EndsWith state (Some (listing l)) disk disk o o Memory
    by None is = lists-plain state disk disk o o Memory l is refl (memory-at_once (Some (listing l)) o)
    by (Some name) is = lists-journaled state disk disk o o Memory l name is (journaled-memory state l name disk disk o.files o.files o.got o.faults (ReadingLeaves-nothing o.files) (inl refl))
memory-with state (Some (checking c)) disk o = (refl, memory-at_once (Some (checking c)) o)
memory-with state (Some (drilling d)) disk o = (refl, memory-at_once (Some (drilling d)) o)
memory-with state (Some (exporting x)) disk o = (refl, memory-at_once (Some (exporting x)) o)
memory-with state (Some (asking a)) disk o = (refl, memory-at_once (Some (asking a)) o)
memory-with state (Some (carrying c)) disk o = (refl, memory-at_once (Some (carrying c)) o)

-- ---- a problem that is listed

module _ {D : Type 0} (state : D → DiskState) (l : Listing) (name : List ℕ) (disk now : D) (old : FilesState) (mid new : Outside) (p : Problem) (reads : ReadingLeaves old mid.files)
    (quiet : mid.files.read_faults ≡ old.read_faults) (read : OfFile (old.held l.file) (IsReadAs l.focus p mid.files.unread)) where
  abbrev held-by : Option (List ℕ)
  held-by = (state disk).held name

  read-in : OfFile (old.held l.file) (λ text. ReadsIn l.focus text p)
  read-in = file-by (old.held l.file) (IsReadAs l.focus p mid.files.unread) (λ text. ReadsIn l.focus text p) (λ text r. r.0) read

  read-whole : (l.evidence ≡ None → new.files ≡ mid.files) → OfFile (old.held l.file) (IsReadFor l.focus l.evidence None p new.files.unread)
  read-whole same =
      read-for (old.held l.file) p l.focus l.evidence None mid.files new.files
      (file-by (old.held l.file) (IsReadAs l.focus p mid.files.unread) (IsReadFor l.focus None None p mid.files.unread) (λ text r. (r.0, λ _ _. r.1)) read) same

  -- a run that is over tells of it
  over : (first : List Record) (Gets : List ℕ → Type 0) (finish : Finish) → IsSalvagedFrom p ((state disk).held name) first → IsNamed ((state disk).held name) name (state now) → IsUnfailed state p (bounds_for l) first disk now finish.closing
      → IsAmong (0 ∷ 3 ∷ 4 ∷ 7 ∷ 8 ∷ []) finish.status → (l.evidence ≡ None → new.files ≡ mid.files)
      → IsRun (bounds_for l) (evidence_output l.evidence) (outside old mid.got mid.faults) new Gets finish
      → IsListed p first (bounds_for l) finish.logs l.evidence (outside old mid.got mid.faults) new Gets finish
      → IsJournaled state l name disk now (outside old mid.got mid.faults) new Gets finish
  over first Gets finish salvaged named whole among same run h = record {
    statuses = among-by (IsAmong (0 ∷ 3 ∷ 4 ∷ 5 ∷ 6 ∷ 7 ∷ 8 ∷ 10 ∷ [])) (0 ∷ 3 ∷ 4 ∷ 7 ∷ 8 ∷ []) finish.status among (refl, (refl, (refl, (refl, (refl, tt)))));
    learned = run.learned;
    before =
        λ t.
        absurd
        (among-by (λ s. IsAmong (5 ∷ 6 ∷ 10 ∷ []) s → ⊥) (0 ∷ 3 ∷ 4 ∷ 7 ∷ 8 ∷ []) finish.status among (false≢true, (false≢true, (false≢true, (false≢true, (false≢true, tt))))) t);
    silent =
        λ t.
        run.silent
        (among-by (λ s. IsAmong (5 ∷ 6 ∷ 8 ∷ 10 ∷ []) s → IsSilent s) (0 ∷ 3 ∷ 4 ∷ 7 ∷ 8 ∷ []) finish.status among
        ((λ t. absurd (false≢true t)), ((λ t. absurd (false≢true t)), ((λ t. absurd (false≢true t)), ((λ t. absurd (false≢true t)), ((λ _. refl), tt))))) t);
    no_fault_dropped =
        λ t. (
          run.no_fault_dropped
              (among-by (λ s. IsAmong (0 ∷ 3 ∷ 4 ∷ 5 ∷ 10 ∷ []) s → IsFaultless s) (0 ∷ 3 ∷ 4 ∷ 7 ∷ 8 ∷ []) finish.status among
              ((λ _. refl), ((λ _. refl), ((λ _. refl), ((λ t. absurd (false≢true t)), ((λ t. absurd (false≢true t)), tt))))) t),
          whole.quiet,
        );
    refused = λ e. absurd (false≢true (subst (IsAmong (0 ∷ 3 ∷ 4 ∷ 7 ∷ 8 ∷ [])) e among));
    read_fault = λ e. absurd (false≢true (subst (IsAmong (0 ∷ 3 ∷ 4 ∷ 7 ∷ 8 ∷ [])) e among));
    journal_refused = λ e. absurd (false≢true (subst (IsAmong (0 ∷ 3 ∷ 4 ∷ 7 ∷ 8 ∷ [])) e among));
    write_fault = λ e. inr (on, run.write_fault e);
    listed = λ _. on;
    memory = λ _. inr on;
    error_line = run.error_line;
    accepted =
        λ none still ok.
        among-by (λ s. s ≢ 7 → IsAmong (0 ∷ 3 ∷ 4 ∷ 8 ∷ 10 ∷ []) s) (0 ∷ 3 ∷ 4 ∷ 7 ∷ 8 ∷ []) finish.status among
        ((λ _. refl), ((λ _. refl), ((λ _. refl), ((λ seven. absurd (seven refl)), ((λ _. refl), tt)))))
        (λ seven. elim (run.write_fault seven) [ inl report ↦ none.2 report.rose | inr evidence ↦ none.1 evidence.rose ]);
    unasked = run.unasked;
    names = run.names;
  }
    where
      told : (whole.history ≡ h.closing.history) × HoldsNew p first h.closing (state now)
      told = subst (λ told. IfSome told (λ closing. (whole.history ≡ closing.history) × HoldsNew p first closing (state now))) h.left whole.new

      on : IsListedOn l name (state disk) (state now) (outside old mid.got mid.faults) new Gets finish
      on = record {
        problem = p;
        reads = read-whole same;
        first = first;
        salvaged = salvaged;
        named = named;
        listed = h;
        quiet = whole.quiet;
        logged = subst (λ hs. HasWholeLog p first l.jobs (state disk).faults hs (state now)) told.0 whole.logged;
        holds_new = told.1;
        none_retired =
            λ t.
            none-retired (opening_for p first (bounds_for l)) (bounds_for l).journal finish.logs h.closing h.enumerated.closed.left
            (subst IsPartial (sym (h.verdict (among-by IsReported (3 ∷ 4 ∷ []) finish.status t (refl, (refl, tt))))) t);
      }

  listed : (first : List Record) (e : Ending) → IsSalvagedFrom p ((state disk).held name) first → IsNamed ((state disk).held name) name (state now) → IsUnfailed state p (bounds_for l) first disk now (finish_of e).closing
      → Lists p (course_for first (bounds_for l)) l.evidence mid new e → EndsJournaled state l name disk now (outside old mid.got mid.faults) new e
  listed first e salvaged named whole (inl (memory, same)) =
      subst (EndsJournaled state l name disk now (outside old mid.got mid.faults) new) (sym memory)
      (subst (λ o. EndsJournaled state l name disk now (outside old mid.got mid.faults) o Memory) (sym same)
      (journaled-memory state l name disk now old mid.files mid.got mid.faults reads
      (inr (inr (record { problem = p; first = first; salvaged = salvaged; named = named; history = whole.history; logged = whole.logged.logged })))))
  listed first e salvaged named whole (inr (ready, ok, written, ending, writes)) =
      let course = course_for first (bounds_for l) in
      let Line = ListedLine p course l.evidence old mid new reads quiet ready ok written in
      let finish = listed_finish p course l.evidence old mid new reads quiet ready ok written in
      let fits = listed-fits p course l.evidence old mid new reads quiet ready ok written in
      subst (EndsJournaled state l name disk now (outside old mid.got mid.faults) new) (sym ending)
      (over first Line finish salvaged named (subst (λ (x : Ending). IsUnfailed state p (bounds_for l) first disk now (finish_of x).closing) ending whole)
      (among-fits p l.evidence ready.left.closing old mid new reads quiet course.told Line finish written fits)
      (same-unasked p l.evidence ready.left.closing old mid new reads quiet course.told Line written writes)
      (listed-run p course l.evidence old mid new reads quiet ready ok written writes)
      (subst (λ logs. IsListed p first (bounds_for l) logs l.evidence (outside old mid.got mid.faults) new Line finish)
      (sym (listed-logs p course l.evidence old mid new reads quiet ready ok written))
      (is-listed p course l.evidence old mid new reads quiet ready ok written writes)))

  pub journaled-keeps : (e : Ending) → Keeps state p (bounds_for l) l.evidence name disk now mid new e → EndsJournaled state l name disk now (outside old mid.got mid.faults) new e
  journaled-keeps e (inl (stops, same)) =
      subst (λ o. EndsJournaled state l name disk now (outside old mid.got mid.faults) o e) (sym same)
      (journaled-unopened state l name disk now old mid.files mid.got mid.faults reads p quiet read-in e stops)
  journaled-keeps e (inr k) = by k.keeps.1
    where
      named : IsNamed held-by name (state now)
      named = some-by held-by (λ _. (state k.opened).name ≡ Some name) (λ _. (state now).name ≡ Some name) (λ _ was. k.keeps.0 ∙ was) k.named

      at-disk : (hs : List Entry) → HasLog p k.first l.jobs (state k.opened).faults hs (state now) → HasLog p k.first l.jobs (state disk).faults hs (state now)
      at-disk hs = subst (λ n. HasLog p k.first l.jobs n hs (state now)) k.quiet

      leaves : LeavesLog state p (bounds_for l) k.first k.opened now → LeavesJournal state l name disk now
      leaves (inl stays) = inr (inl (unless-empty state held-by k.opened now k.stays k.lawful stays))
      leaves (inr (hs, logged)) = inr (inr (record { problem = p; first = k.first; salvaged = k.salvaged; named = named; history = hs; logged = at-disk hs logged }))

      failed : Rose (state disk).faults (state now).faults → Fails state p (bounds_for l) k.first k.opened now e → EndsJournaled state l name disk now (outside old mid.got mid.faults) mid e
      failed rose (inl (unbegun, stays)) =
          subst (EndsJournaled state l name disk now (outside old mid.got mid.faults) mid) (sym unbegun)
          (journaled-unbegun state l name disk now old mid.files mid.got mid.faults reads p quiet read-in k.first k.salvaged rose named (unless-empty state held-by k.opened now k.stays k.lawful stays))
      failed rose (inr (left, cut, closed, logged)) =
          subst (EndsJournaled state l name disk now (outside old mid.got mid.faults) mid) (sym cut)
          (journaled-cut state l name disk now old mid.files mid.got mid.faults reads p quiet read-in k.first left k.salvaged rose named closed (at-disk left.closing.history logged))

      by : KeepsCases state p (bounds_for l) l.evidence k.first k.opened now mid new e → EndsJournaled state l name disk now (outside old mid.got mid.faults) new e
      by (inl (memory, same, left)) =
          subst (EndsJournaled state l name disk now (outside old mid.got mid.faults) new) (sym memory)
          (subst (λ o. EndsJournaled state l name disk now (outside old mid.got mid.faults) o Memory) (sym same) (journaled-memory state l name disk now old mid.files mid.got mid.faults reads (leaves left)))
      by (inr (inl (rose, same, fails))) = subst (λ o. EndsJournaled state l name disk now (outside old mid.got mid.faults) o e) (sym same) (failed (subst (λ n. Rose n (state now).faults) k.quiet rose) fails)
      by (inr (inr (whole, lists))) =
          listed k.first e k.salvaged named
          (record {
            quiet = whole.quiet ∙ k.quiet;
            history = whole.history;
            logged = subst (λ n. HasWholeLog p k.first l.jobs n whole.history (state now)) k.quiet whole.logged;
            new = whole.new;
          }) lists

-- ---- the steps

module _ {D : Type 0} (state : D → DiskState) (p : Problem) (held : Option (List ℕ)) (faults : ℕ) (mid new : D) (opened : (state mid).reads ≡ held) (quiet : (state mid).faults ≡ faults)
    (looks : Looks (state mid) (state new)) where
  abbrev pub stays : IsLookedAt state held new
  stays = record { opened = mid; held_is = opened; looks = looks }

  pub is-opened : IsLawful (state mid) → (name : List ℕ) → IsNamed held name (state mid) → (s : Salvaged) → IfSome (state mid).reads (λ bytes. HoldsRecords p bytes s.records s.gate s.last) → AreJournalled p s.records → AllAccepted p s.records → s.gate + 1 < 2 ^ 64
      → (state new).faults ≡ (state mid).faults → IsOpened state p held name faults new s
  is-opened lawful name named s told journalled accepted gate count = record {
    salvaged =
        record {
          holds =
              subst (λ o. IfSome o (λ bytes. (gate : ℕ) × (last : Option ℕ) × HoldsRecords p bytes s.records gate last)) opened
              (some-by (state mid).reads (λ bytes. HoldsRecords p bytes s.records s.gate s.last) (λ bytes. (gate : ℕ) × (last : Option ℕ) × HoldsRecords p bytes s.records gate last)
              (λ bytes h. (s.gate, s.last, h)) told);
          journalled = journalled;
        };
    accepted = accepted;
    gate = gate;
    read = subst (λ o. IfSome o (λ bytes. HoldsRecords p bytes s.records s.gate s.last)) (sym looks.reads) told;
    quiet = count ∙ quiet;
    stays = stays;
    lawful = lawful;
    named = some-by held (λ _. (state mid).name ≡ Some name) (λ _. (state new).name ≡ Some name) (λ _ was. looks.name ∙ was) named;
  }

  pub stops-foreign : (at : ℕ) (e : Ending) → IfSome (state mid).reads (λ bytes. HoldsNoRecord p bytes at) → (state new).faults ≡ (state mid).faults → RefusesJournal at e → StopsSalvaging state p held faults new e
  stops-foreign at (JournalRefused line) told count is = (
    record { at = at; holds = subst (λ o. IfSome o (λ bytes. HoldsNoRecord p bytes at)) opened told; line = is },
    count ∙ quiet,
    stays,
  )
  stops-foreign at Memory told count is = stays
  stops-foreign at _ told count is = absurd is

  pub stops-unread : Rose (state mid).faults (state new).faults → StopsSalvaging state p held faults new JournalUnread
  stops-unread rose = (subst (λ n. Rose n (state new).faults) quiet rose, stays)

-- records of a journal may be begun with
pub good-opened : {D : Type 0} (state : D → DiskState) (p : Problem) (held : Option (List ℕ)) (name : List ℕ) (faults : ℕ) (new : D) (s : Salvaged) → IsOpened state p held name faults new s → AreGoodFirst p s.records
good-opened state p held name faults new s h = record { accepted = h.accepted; distinct = h.salvaged.journalled.distinct }

-- an opened disk has the name under which it was opened
pub named-by : {D : Type 0} (state : D → DiskState) (new : D) (held : Option (List ℕ)) (name : List ℕ) → (state new).reads ≡ held → IsOpenAs (state new) name → IsNamed held name (state new)
named-by state new held name reads named = subst (λ o. IfSome o (λ _. (state new).name ≡ Some name)) reads named

-- where a journal ends without a byte the disk has none
no-rest : (rest : List ℕ) → None ≡ first_of rest → rest ≡ []
no-rest [] is = refl
no-rest (byte ∷ bytes) is = absurd (cc)

no-bytes : (p : Problem) (bytes : List ℕ) (records : List Record) (gate : ℕ) (last : Option ℕ) → HoldsRecords p bytes records gate last → last ≡ None → bytes ≡ []
no-bytes p bytes records gate last h none =
    let e = h.ends in
    e.parts ∙ ap (λ (texts : List (List ℕ)). frames texts ++ e.rest) (e.empty none) ∙ no-rest e.rest (sym none ∙ e.last_is)

module _ {D : Type 0} (state : D → DiskState) (p : Problem) where
  -- a start that did not answer that the journal is begun wrote nothing to a disk that had a byte
  pub stays-readied : (s : Salvaged) (disk now : D) → IfSome (state disk).reads (λ bytes. HoldsRecords p bytes s.records s.gate s.last) → IsReadied state disk now s.last
      → StaysUnlessEmpty state disk now
  stays-readied s disk now told ready =
      some-by (state disk).reads (λ bytes. HoldsRecords p bytes s.records s.gate s.last) (λ bytes. bytes ≢ [] → Looks (state disk) (state now))
      (λ bytes h some. (ready.with_gate (λ none. some (no-bytes p bytes s.records s.gate s.last h none))).0) told

  -- nor did what was not begun
  pub stays-unbegun : (disk : D) → StaysUnlessEmpty state disk disk
  stays-unbegun disk = if-any (state disk).reads (λ bytes. bytes ≢ [] → Looks (state disk) (state disk)) (λ bytes some. Looks-none (state disk))

module _ {D : Type 0} (state : D → DiskState) (p : Problem) (b : Bounds) (asked : Option (List ℕ)) (first : List Record) (old new : Outside) (e : Ending) where
  pub keeps-ended : (disk : D) (s : List Record) (faults : ℕ) (name : Option (List ℕ)) (kept : Kept D) → first ≡ s → faults ≡ (state disk).faults → name ≡ (state disk).name → IsKept state p first b faults name kept
      → IfSome (finish_of e).closing (λ closing. closing_in kept.left ≡ Some closing) → EndsKept p b asked first kept.is_broken old new e → KeepsFrom state p b asked s disk kept.disk old new e
  keeps-ended disk s faults name kept same count named was told ends = subst (λ s. KeepsFrom state p b asked s disk kept.disk old new e) same (was.named ∙ named, by ends)
    where
      is : IsKept state p first b (state disk).faults name kept
      is = subst (λ n. IsKept state p first b n name kept) count was

      at-left : (left : Enumerated) → e ≡ JournalCutOff left → HasLog p first b.jobs (state disk).faults left.closing.history (state kept.disk)
      at-left left cut =
          let here : closing_in kept.left ≡ Some left.closing = subst (λ (x : Ending). IfSome (finish_of x).closing (λ closing. closing_in kept.left ≡ Some closing)) cut told in
          subst (λ hs. HasLog p first b.jobs (state disk).faults hs (state kept.disk)) (ap history_in here) is.logged

      by : EndsKept p b asked first kept.is_broken old new e → KeepsCases state p b asked first disk kept.disk old new e
      by (inl (memory, same)) = inl (memory, same, inr (history_in (closing_in kept.left), is.logged))
      by (inr (inl (left, cut, broken, closed, same))) = inr (inl (is.rose broken, same, inr (left, cut, closed, at-left left cut)))
      by (inr (inr (whole, lists))) =
          inr
          (inr (
            record {
              quiet = is.quiet whole;
              history = history_in (closing_in kept.left);
              logged = record { logged = is.logged; unfailed = is.unfailed whole };
              new =
                  some-by (finish_of e).closing (λ closing. closing_in kept.left ≡ Some closing)
                  (λ closing. (history_in (closing_in kept.left) ≡ closing.history) × HoldsNew p first closing (state kept.disk))
                  (λ closing here. (ap history_in here, subst (λ o. IfSome o (λ k. HoldsNew p first k (state kept.disk))) here is.holds_new)) told;
            },
            lists,
          ))

-- ---- the line that standard error gets

module _ (Gets Has : List ℕ → Type 0) (f : (line : List ℕ) → Gets line → Has line) {D : Type 0} (state : D → DiskState) (l : Listing) (name : List ℕ) (disk now : D) (old new : Outside)
    (finish : Finish) where
  on-gets : IsListedOn l name (state disk) (state now) old new Gets finish → IsListedOn l name (state disk) (state now) old new Has finish
  on-gets h =
      let has = listed-gets Gets Has f h.problem h.first (bounds_for l) finish.logs l.evidence old new finish h.listed in
      let same : h.listed.closing ≡ has.closing = same_Some h.listed.closing has.closing (sym h.listed.left ∙ has.left) in
      record {
        problem = h.problem;
        reads = h.reads;
        first = h.first;
        salvaged = h.salvaged;
        named = h.named;
        listed = has;
        quiet = h.quiet;
        logged = subst (λ (closing : Closing). HasWholeLog h.problem h.first l.jobs (state disk).faults closing.history (state now)) same h.logged;
        holds_new = subst (λ closing. HoldsNew h.problem h.first closing (state now)) same h.holds_new;
        none_retired = λ t. subst (λ (closing : Closing). NoneRetired closing.history) same (h.none_retired t);
      }

  cut-gets : IsReportFault Gets old new ⊎ IsOutputFault (evidence_output l.evidence) Gets old new → IsReportFault Has old new ⊎ IsOutputFault (evidence_output l.evidence) Has old new
  cut-gets (inl report) = inl (record { rose = report.rose; line = f report_cut_line report.line })
  cut-gets (inr output) = inr (record { wanted = output.wanted; rose = output.rose; line = f (evidence_output l.evidence).cut_line output.line; silent = output.silent })

  pub journaled-gets : IsJournaled state l name disk now old new Gets finish → IsJournaled state l name disk now old new Has finish
  journaled-gets h = record {
    statuses = h.statuses;
    learned = h.learned;
    before = h.before;
    silent = h.silent;
    no_fault_dropped = h.no_fault_dropped;
    refused = λ e. (refusal Gets Has f (old.files.held l.file) (h.refused e).0, (h.refused e).1);
    read_fault =
        λ e.
        elim (h.read_fault e) [
          | inl input ↦ inl (record { rose = input.rose; line = f input_fault_line input.line; untouched = input.untouched })
          | inr unread ↦ inr (record { problem = unread.problem; reads = unread.reads; rose = unread.rose; line = f journal_fault_line unread.line; stays = unread.stays })
        ];
    journal_refused =
        λ e.
        let r = h.journal_refused e in
        record { problem = r.problem; reads = r.reads; foreign = record { at = r.foreign.at; holds = r.foreign.holds; line = f _ r.foreign.line }; stays = r.stays };
    write_fault =
        λ e.
        elim (h.write_fault e) [
          | inl cut ↦
              inl
              (record {
                problem = cut.problem;
                reads = cut.reads;
                first = cut.first;
                salvaged = cut.salvaged;
                named = cut.named;
                rose = cut.rose;
                line = f journal_cut_line cut.line;
                silent = cut.silent;
                leaves = cut.leaves;
                stopped = cut.stopped;
              })
          | inr on ↦ inr (on-gets on.0, cut-gets on.1)
        ];
    accepted = h.accepted;
    unasked = h.unasked;
    listed = λ r. on-gets (h.listed r);
    memory = λ e. elim (h.memory e) [ inl none ↦ inl none | inr on ↦ inr (on-gets on) ];
    error_line = λ t. f (error_line (bounds_for l) finish.status) (h.error_line t);
    names = h.names;
  }
