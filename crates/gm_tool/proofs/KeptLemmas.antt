-- What is left of an enumeration that kept a journal, by what its seats and its board know.
use Rattle.std.proofs.Common.{◌≡◌, ℕ, ◌<◌, Bool, true, false, List, [], ◌∷◌, length, get_or, All, Option, Some, None, refl, sym, ◌∙◌, ap, subst, arith}
use Rattle.std.specs.Prelude.{◌||◌, MatchOption, IfSome, IsSome, is_some}
use Rattle.std.specs.List.{AllByRecursion}
use Rattle.std.proofs.lemmas.List.{length-map}
use Rattle.std.proofs.lemmas.Bool.{false≢true, false_from_ne_true}
use Rattle.gm_base.specs.Problem.{Problem}
use Rattle.gm_ports.specs.Faults.{Rose}
use Rattle.gm_ports.specs.DiskState.{DiskState}
use Rattle.turn_lock.specs.Calls.{calls_by}
use Rattle.turn_lock.specs.Seats.{AreAll, AreNew}
use Rattle.lrat_steps.specs.Log.{LogStep}
use Rattle.evidence_rec.specs.declared.record.Record.{Record}
use Rattle.evidence_rec.specs.Records.{IsAcceptedAlone}
use Rattle.evidence_text.specs.Alone.{IsTextOf, written_of}
use Rattle.evidence_text.specs.Readable.{HasRecordIds}
use Rattle.evidence_text.specs.Text.{record_text}
use Rattle.map_core.specs.declared.entry.Entry.{Entry}
use Rattle.map_core.specs.declared.entry.Opening.{Opening}
use Rattle.map_core.specs.declared.closing.Closing.{Closing}
use Rattle.map_core.specs.declared.closing.Verdict.{Verdict}
use Rattle.map_core.specs.declared.closing.Verdict.TheVariants.{Memory}
use Rattle.map_core.specs.Own.{calls_of, brought_in}
use Rattle.map_core.specs.Closings.{is_cut_off}
use Rattle.gm_journal.specs.declared.entry.Appended.{Appended}
use Rattle.gm_journal.specs.declared.entry.Appended.TheVariants as appended
use Rattle.gm_journal.specs.Books.{Keeps, KeepsFront, HoldsFront, IsOpenedOn}
use Rattle.gm_journal.specs.Laws.{KeptTextsAreOfTheirRecords, FrontTextsAreOfTheirRecords}
use Rattle.gm_journal.specs.Entries.{OpeningView, EntryView, who_of}
use Rattle.gm_journal.specs.Histories.{count_after, count_in, has_failed, is_failure, kept_in}
use Rattle.gm_journal.specs.Journals as journals
use Rattle.gm_journal.specs.Journals.{IsOpeningFor}
use Rattle.worker_pool.specs.Pens.{JournalView, PenView, HasWritten}
use Rattle.worker_pool.specs.Outcomes as pool
use Rattle.worker_pool.proofs.CutOff.{not_journal}
use Rattle.worker_pool.proofs.Unbroken.{by_each, none_failed, not_cut_off}
use Rattle.gm_io.specs.Evidence.{HasSmallIds}
use Rattle.gm_tool.proofs.BroughtLemmas.{brought-records, are-appended, appended-read, kept-tried, brought-alone, brought-ids}
use Rattle.gm_io.specs.declared.bounds.Bounds.{Bounds}
use Rattle.gm_io.specs.declared.ending.Enumerated.{Enumerated}
use Rattle.gm_tool.specs.declared.kept.Kept.{Kept}
use Rattle.gm_tool.specs.declared.kept.Pages.{Pages}
use Rattle.gm_tool.specs.Closed.{IsLeft, learned_in, opening_for}
use Rattle.gm_tool.specs.Journaled.{HasLog, HoldsNew, IsBegun, IsLogOf}
use Rattle.gm_tool.specs.JournalSteps.{IsClosed, IsKept, IsReady, HasEnded, closing_in, history_in, left_of}
use Rattle.gm_tool.proofs.HistoryLemmas.{failed-among, rose-after}
use Rattle.gm_tool.proofs.SalvageLemmas.{AreSalvaged, holds-new, if-told}

-- where none failed the count stays
same-after : (n : ℕ) (r : Appended) (rest : Bool) → (is_failure r || rest) ≡ false → (count_after n r ≡ n) × (rest ≡ false)
same-after n appended.Ok rest is = (refl, is)
same-after n appended.Already rest is = (refl, is)
same-after n appended.Closed rest is = (refl, is)
same-after n (appended.Failed count) rest is = absurd (false≢true (sym is))
same-after n appended.Memory rest is = (refl, is)

same-in : (es : List EntryView) (n : ℕ) → has_failed es ≡ false → count_in n es ≡ n
same-in [] n is = refl
same-in (e ∷ es) n is = let h = same-after n e.reply (has_failed es) is in same-in es (count_after n e.reply) h.1 ∙ h.0

none-of : {A : Type 0} (x : Option A) → is_some x ≡ false → x ≡ None
none-of None is = refl
none-of (Some a) is = absurd (false≢true (sym is))

some-of : {A : Type 0} (x : Option A) → is_some x ≡ true → (a : A) × (x ≡ Some a)
some-of None is = absurd (false≢true is)
some-of (Some a) is = (a, refl)

module _ {D : Type 0} (state : D → DiskState) (p : Problem) (first : List Record) (b : Bounds) (j k : JournalView) (pens left : List PenView) (spent : ℕ) (logs : List (List LogStep))
    (broken : Option ℕ) (disk : D) (count : spent ≡ learned_in logs) (ended : journals.IsLeft (state disk) k.opening left) (same-kept : KeptTextsAreOfTheirRecords) (same-front : FrontTextsAreOfTheirRecords) where
  abbrev o : Opening
  o = opening_for p first b

  abbrev Told : Option Closing → Verdict → Type 0
  Told closing v = MatchOption closing (v ≡ Memory) (λ c. pool.IsLeft o b.journal logs c × (v ≡ c.verdict))

  closed : (closing : Option Closing) (v : Verdict) → Told closing v → IfSome (left_of spent logs closing) (IsClosed p first b)
  closed None v h = tt
  closed (Some c) v h = record { left = h.0; spent = count }

  all-of : (closing : Option Closing) → pool.IsKept o j pens closing broken k left → AreAll k left
  all-of closing told = subst (λ m. AreAll m left) (sym told.same) told.all

  -- no worker retired for a journal that is whole
  whole : (closing : Option Closing) (v : Verdict) → Told closing v → pool.IsKept o j pens closing broken k left → broken ≡ None → IfSome (left_of spent logs closing) (IsLeft p first b)
  whole None v h told none = tt
  whole (Some c) v h told none =
      let l = h.0 in
      let s = l.state in
      let cut : is_cut_off c.history ≡ false =
      not_cut_off k left ended.history c.history o.workers (all-of (Some c) told) ended.seats_are (sym told.broken_is ∙ none) told.written told.count l.named in
      record {
        closed =
            record {
              left = l;
              no_journal =
                  not_journal s.exhausted s.settled (is_cut_off s.history) s.stopped s.limited l.closing_is.verdict
                  (subst (λ es. is_cut_off es ≡ false) l.closing_is.history cut);
            };
        spent = count;
      }

  quiet : (closing : Option Closing) → pool.IsKept o j pens closing broken k left → broken ≡ None → (state disk).faults ≡ j.opening.faults
  quiet closing told none =
      ended.count
      ∙ same-in ended.history k.opening.faults (none_failed k left ended.history (all-of closing told) ended.seats_are (sym told.broken_is ∙ none))
      ∙ ap (λ (m : JournalView). m.opening.faults) told.same

  rose : (closing : Option Closing) (n : ℕ) → pool.IsKept o j pens closing broken k left → broken ≡ Some n → Rose j.opening.faults (state disk).faults
  rose closing n told is =
      let failed : has_failed ended.history ≡ true = failed-among ended.history left n ended.seats_are.mine (sym told.broken_is ∙ is) in
      subst (λ m. Rose m (state disk).faults) (ap (λ (m : JournalView). m.opening.faults) told.same)
      (subst (λ m. Rose k.opening.faults m) (sym ended.count) (rose-after k.opening [] ended.history k.opening.faults ended.seats_are.is_legal failed))

  -- the journal that comes back is the one that was begun
  same-begun : (closing : Option Closing) → pool.IsKept o j pens closing broken k left → IsBegun p first b.jobs j.opening.faults j.opening → IsBegun p first b.jobs j.opening.faults k.opening
  same-begun closing told begun = subst (λ (m : JournalView). IsBegun p first b.jobs j.opening.faults m.opening) (sym told.same) begun

  -- the disk has what was new
  new-held : AreSalvaged (state disk) (λ bytes. (state disk).reads ≡ Some bytes) → AreSalvaged (state disk) (state disk).may_leave → (closing : Option Closing) (v : Verdict) → Told closing v → IfSome closing HasSmallIds → pool.IsKept o j pens closing broken k left → IsBegun p first b.jobs j.opening.faults j.opening
      → IfSome (closing_in (left_of spent logs closing)) (λ c. HoldsNew p first c (state disk))
  new-held read crash None v h ids told begun = tt
  new-held read crash (Some c) v h ids told begun =
      holds-new (state disk) read crash k left p first b j.opening.faults logs c (same-begun (Some c) told begun) ended (all-of (Some c) told) told.written told.count h.0 ids same-kept

  abbrev log : List EntryView
  log = ended.history

  own : (closing : Option Closing) → pool.IsKept o j pens closing broken k left → (w : ℕ) (d : PenView) → w < length left → calls_by who_of w log ≡ (get_or left w d).mine
  own closing told w d low = ap (λ n. calls_by who_of n log) (sym ((all-of closing told).number w d low)) ∙ ended.seats_are.mine w d low

  -- each worker appended what it brought; where there was no board, nothing
  written : AreNew j b.jobs pens → (closing : Option Closing) → pool.IsKept o j pens closing broken k left → (w : ℕ) → w < length left
      → HasWritten true (calls_of w (history_in closing)) (calls_by who_of w log)
  written new (Some c) told w low =
      let d : PenView = record { lock = k.id; opening = Some k.opening; number = 0; made = 0; seen = []; mine = [] } in
      subst (HasWritten true (calls_of w c.history)) (sym (own (Some c) told w d low)) (told.written.each w d low)
  written new None told w low =
      let d : PenView = record { lock = k.id; opening = Some k.opening; number = 0; made = 0; seen = []; mine = [] } in
      let same : left ≡ pens = told.written in
      let size = ap length same in
      let none : calls_by who_of w log ≡ [] =
      own None told w d low ∙ ap (λ (l : List PenView). (get_or l w d).mine) same ∙ ap (λ (s : PenView). s.mine) (new.each w d (omega arith)) in
      subst (HasWritten true []) (sym none) (record { news = λ _. refl; texts = λ _. refl; cut_off = refl; there = λ _. tt; before = tt })

  log-of : AreNew j b.jobs pens → (closing : Option Closing) → pool.IsKept o j pens closing broken k left → IsLogOf k.opening b.jobs (history_in closing) log
  log-of new closing told = record {
    is_legal = ended.seats_are.is_legal;
    named = subst (λ n. All (λ (e : EntryView). e.who < n) log) told.count ended.seats_are.named;
    written = λ w low. let count = told.count in written new closing told w (omega arith);
  }

  alone : (closing : Option Closing) (v : Verdict) → Told closing v → AllByRecursion (IsAcceptedAlone p) (brought_in (history_in closing))
  alone None v h = tt
  alone (Some c) v h = brought-alone o b.journal logs c h.0

  ids-of : (closing : Option Closing) (v : Verdict) → Told closing v → IfSome closing HasSmallIds → AllByRecursion HasRecordIds (brought_in (history_in closing))
  ids-of None v h ids = tt
  ids-of (Some c) v h ids = brought-ids o b.journal logs c h.0 ids

  logged : AreSalvaged (state disk) (λ bytes. (state disk).reads ≡ Some bytes) → AreSalvaged (state disk) (state disk).may_leave → AreNew j b.jobs pens → (closing : Option Closing) (v : Verdict) → Told closing v → IfSome closing HasSmallIds
      → pool.IsKept o j pens closing broken k left → IsBegun p first b.jobs j.opening.faults j.opening → HasLog p first b.jobs j.opening.faults (history_in closing) (state disk)
  logged read crash new closing v h ids told begun =
      let is = same-begun closing told begun in
      let faults = is.counted in
      let count = told.count in
      let history = history_in closing in
      let named : AllByRecursion (λ (e : EntryView). who_of e < b.jobs) log =
      by_each (λ (e : EntryView). who_of e < b.jobs) log (subst (λ n. All (λ (e : EntryView). e.who < n) log) told.count ended.seats_are.named) in
      let each : (w : ℕ) → w < b.jobs → HasWritten true (calls_of w history) (calls_by who_of w log) = λ w low. written new closing told w (omega arith) in
      let posted = alone closing v h in
      let small = ids-of closing v h ids in
      let rs = brought-records p history log b.jobs named each posted small in
      let are = are-appended p history log b.jobs named each posted small in
      let read_back = appended-read p history log b.jobs named each posted small in
      let front : (bytes : List ℕ) → KeepsFront k.opening log log bytes → HoldsFront p first rs (length (kept_in log)) bytes =
      λ bytes keeps.
      subst (λ (q : Problem). HoldsFront q first rs (length (kept_in log)) bytes) is.problem
      (subst (λ (l : List Record). HoldsFront k.opening.problem l rs (length (kept_in log)) bytes) is.records
      (same-front k.opening log log rs bytes (subst (λ (q : Problem). AllByRecursion (λ (r : Record). IsTextOf q r (record_text r)) rs) (sym is.problem) read_back) are.texts keeps)) in
      record {
        opening = k.opening;
        begun = is;
        log = log;
        log_of = log-of new closing told;
        unfailed =
            λ still.
            false_from_ne_true (has_failed log) (λ failed.
            still
            (subst (λ n. Rose n (state disk).faults) faults (subst (λ n. Rose k.opening.faults n) (sym ended.count) (rose-after k.opening [] log k.opening.faults ended.seats_are.is_legal failed))));
        whole =
            λ none.
            if-told (state disk).reads (λ bytes. Keeps k.opening (kept_in log) bytes × ((c : List ℕ) → (state disk).may_leave c → Keeps k.opening (kept_in log) c)) (λ bytes reads.
            let kept = ended.kept none bytes reads in
            (read k.opening (kept_in log) ended.gate bytes kept reads, λ c may. crash k.opening (kept_in log) ended.gate c kept may));
        front = ended.whole;
        appended = rs;
        are = are;
        holds =
            if-told (state disk).reads (λ bytes. HoldsFront p first rs (length (kept_in log)) bytes × ((c : List ℕ) → (state disk).may_leave c → HoldsFront p first rs (length (kept_in log)) c)) (λ bytes reads.
            let all = ended.whole (subst IsSome (sym reads) refl) in
            (front bytes (subst (λ (told : Option (List ℕ)). IfSome told (KeepsFront k.opening log log)) reads all.read), λ c may. front c (all.crash c may)));
        all = λ none. ap length (kept-tried log none) ∙ sym (ap length are.texts) ∙ length-map rs written_of;
      }

  unfailed : (closing : Option Closing) → pool.IsKept o j pens closing broken k left → broken ≡ None → has_failed log ≡ false
  unfailed closing told none = none_failed k left log (all-of closing told) ended.seats_are (sym told.broken_is ∙ none)

  pub is-kept : AreNew j b.jobs pens → AreSalvaged (state disk) (λ bytes. (state disk).reads ≡ Some bytes) → AreSalvaged (state disk) (state disk).may_leave → (closing : Option Closing) (v : Verdict) (kept : Kept D) → Told closing v → IfSome closing HasSmallIds → pool.IsKept o j pens closing broken k left → IsBegun p first b.jobs j.opening.faults j.opening
      → kept.disk ≡ disk → kept.is_broken ≡ is_some broken → kept.left ≡ left_of spent logs closing → IsKept state p first b j.opening.faults j.opening.name kept
  unfolding logged
  is-kept new read crash closing v kept h ids told begun at is left_is = record {
    left =
        subst (HasEnded p first b kept.is_broken) (sym left_is)
        (record { closed = closed closing v h; whole = λ not. whole closing v h told (none-of broken (sym is ∙ not)) });
    quiet = λ not. subst (λ (d : D). (state d).faults ≡ j.opening.faults) (sym at) (quiet closing told (none-of broken (sym is ∙ not)));
    rose =
        λ yes.
        let some = some-of broken (sym is ∙ yes) in
        subst (λ (d : D). Rose j.opening.faults (state d).faults) (sym at) (rose closing some.0 told some.1);
    holds_new =
        subst (λ (d : D). IfSome (closing_in kept.left) (λ c. HoldsNew p first c (state d))) (sym at)
        (subst (λ (own : Option Enumerated). IfSome (closing_in own) (λ c. HoldsNew p first c (state disk))) (sym left_is) (new-held read crash closing v h ids told begun));
    logged = (at-left read crash new closing v kept h ids told begun at left_is).0;
    named = ap (λ (d : D). (state d).name) at ∙ ended.gone_on.name ∙ ap (λ (m : JournalView). m.opening.name) told.same;
    unfailed = λ not. (at-left read crash new closing v kept h ids told begun at left_is).1 (unfailed closing told (none-of broken (sym is ∙ not)));
  }
    where
      -- what the disk has is what the one that comes back has
      at-left : AreSalvaged (state disk) (λ bytes. (state disk).reads ≡ Some bytes) → AreSalvaged (state disk) (state disk).may_leave → AreNew j b.jobs pens → (closing : Option Closing) (v : Verdict) (kept : Kept D) → Told closing v → IfSome closing HasSmallIds
          → pool.IsKept o j pens closing broken k left → IsBegun p first b.jobs j.opening.faults j.opening → kept.disk ≡ disk → kept.left ≡ left_of spent logs closing
          → (g : HasLog p first b.jobs j.opening.faults (history_in (closing_in kept.left)) (state kept.disk)) × (has_failed log ≡ false → has_failed g.log ≡ false)
      at-left read crash new closing v kept h ids told begun at left_is =
          subst (λ (d : D). (g : HasLog p first b.jobs j.opening.faults (history_in (closing_in kept.left)) (state d)) × (has_failed log ≡ false → has_failed g.log ≡ false)) (sym at)
          (subst (λ (hs : List Entry). (g : HasLog p first b.jobs j.opening.faults hs (state disk)) × (has_failed log ≡ false → has_failed g.log ≡ false))
          (sym (ap (λ (own : Option Enumerated). history_in (closing_in own)) left_is ∙ back closing)) (logged read crash new closing v h ids told begun, λ not. not))
        where
          back : (c : Option Closing) → history_in (closing_in (left_of spent logs c)) ≡ history_in c
          back None = refl
          back (Some c) = refl

-- a journal that was started with these records is ready
pub is-ready : {D : Type 0} (p : Problem) (salvaged records : List Record) (b : Bounds) (faults : ℕ) (pages : Pages D) → IsBegun p salvaged b.jobs faults pages.journal.opening
    → AreNew pages.journal b.jobs pages.seats.items → records ≡ salvaged → IsReady p records b pages
is-ready p salvaged records b faults pages begun new same = record {
  begun = record { problem = begun.problem; records = begun.records ∙ sym same; seats = begun.seats; counted = refl };
  seats = new;
}

-- what a start tells of the journal, and of the disk on which it was opened
pub begun-by : (p : Problem) (records : List Record) (seats faults : ℕ) (disk : DiskState) (o : OpeningView) → IsOpeningFor p records seats o → IsOpenedOn disk o → disk.faults ≡ faults
    → IsBegun p records seats faults o
begun-by p records seats faults disk o is on same = record { problem = is.problem; records = is.records; seats = is.seats; counted = sym on.faults ∙ same }
