-- Handing in a record.
use Rattle.std.specs.Prelude.{◌≡◌, ◌++◌, ◌∷◌, [], ℕ, Bool, true, false, List, map, Option, Some, None, is_some}
use Rattle.std.specs.List.{AllByRecursion}
use Rattle.gm_base.specs.Problem.{Problem}
use Rattle.gm_base.specs.Explored.{Found}
use Rattle.evidence_rec.specs.declared.record.Record.{Record}
use Rattle.evidence_text.specs.Alone.{Written, written_of, IsTextOf}
use Rattle.map_core.specs.declared.entry.Retirement.{Retirement}
use Rattle.map_core.specs.declared.entry.Retirement.TheVariants.{Journal, Memory}
use Rattle.map_core.specs.Own.{new_in, brought_in}
use Rattle.map_core.specs.Closings.{is_cut_off}
use Rattle.gm_journal.specs.declared.entry.Appended.{Appended}
use Rattle.gm_journal.specs.declared.entry.Appended.TheVariants as appended
use Rattle.gm_journal.specs.Entries.{EntryView}
use Rattle.gm_journal.specs.Histories.{IsOfRecord}
use Rattle.gm_journal.specs.Journals.{MayCall, IsAppend}
use Rattle.worker_pool.specs.declared.worker.Worker.{Worker}
use Rattle.worker_pool.specs.Pens.{JournalView, PenView, written_by, set_in, text_in, is_there, failure_or, IsPenOf}

-- the text of the record, where it is wanted
abbrev pub IsTextFor : Problem → Record → Bool → Option Written → Type 0
IsTextFor p r false text = text ≡ None
IsTextFor p r true None = ⊥
IsTextFor p r true (Some w) = (w ≡ written_of r) × IsTextOf p r w.text

-- where there is a journal, the text of a record that the problem accepts, and else none
abbrev pub IsForJournal : Problem → Option JournalView → Option Written → Type 0
IsForJournal p None None = Unit {0}
IsForJournal p None (Some w) = ⊥
IsForJournal p (Some j) None = ⊥
IsForJournal p (Some j) (Some w) = IsOfRecord p w

-- the set that a text is of
abbrev pub set_of_text : Option Written → List Found
set_of_text None = []
set_of_text (Some w) = w.found ∷ []

-- the text, if there is one
abbrev pub text_of : Option Written → List Written
text_of None = []
text_of (Some w) = w ∷ []

-- a worker all of whose new records the journal has, but for the last one, whose text this is
pub record IsDue {O D : Type 0} (j : Option JournalView) (p : Problem) (w : Worker O D) (text : Option Written) : Type 0 where
  pub pen : IsPenOf p j w.pen
  pub is_text : IsForJournal p j text
  pub news : is_some j ≡ true → map set_in (written_by w.pen) ++ set_of_text text ≡ new_in w.seat.mine
  pub texts : is_some j ≡ true → map text_in (written_by w.pen) ++ text_of text ≡ map written_of (brought_in w.seat.mine)
  pub going : is_cut_off w.seat.mine ≡ false
  pub there : AllByRecursion (λ (e : EntryView). is_there e.reply ≡ true) (written_by w.pen)
  pub whole : w.broken ≡ None

-- the text may be appended with the pen, where there is a journal
abbrev pub MayWrite : Option JournalView → Option PenView → Option Written → Type 0
MayWrite None pen text = Unit {0}
MayWrite (Some j) None text = ⊥
MayWrite (Some j) (Some pen) None = ⊥
MayWrite (Some j) (Some pen) (Some w) = MayCall j pen w

-- what that answers, and leaves of the pen
abbrev pub TellsWritten : Option JournalView → Option PenView → Option Written → Option Appended → Option PenView → Type 0
TellsWritten None pen text reply after = (reply ≡ None) × (after ≡ pen)
TellsWritten (Some j) (Some s) (Some w) (Some reply) (Some t) = IsAppend j.opening s w reply t
TellsWritten (Some j) _ _ _ _ = ⊥

-- the count with which an append failed, if it did
abbrev pub failure_of : Option Appended → Option ℕ
failure_of None = None
failure_of (Some reply) = failure_or None reply

-- why a worker retires whose append was answered so
abbrev pub retirement_by : Option Appended → Option Retirement
retirement_by None = None
retirement_by (Some appended.Ok) = None
retirement_by (Some appended.Already) = None
retirement_by (Some appended.Closed) = Some Journal
retirement_by (Some (appended.Failed count)) = Some Journal
retirement_by (Some appended.Memory) = Some Memory
