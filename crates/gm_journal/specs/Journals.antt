-- What starting a journal tells, what an append does to its seat, and what is left of a journal.
--
-- All seats' appends are one history, each one entry; it is legal where each answer is the one that a journal with the entries
-- before gives (linearizability: Herlihy and Wing 1990).
use Rattle.std.specs.Prelude.{◌≡◌, ℕ, ◌<◌, ◌^◌, List, [], ◌∷◌, ◌++◌, length, Some, IsSome}
use Rattle.gm_base.specs.Problem.{Problem}
use Rattle.gm_ports.specs.Faults.{Rose}
use Rattle.gm_ports.specs.DiskState.{DiskState}
use Rattle.turn_lock.specs.Calls.{calls_by}
use Rattle.turn_lock.specs.Seats.{LockView, SeatView, IsSeatOf, IsSameSeat, AreNew, HasAll}
use Rattle.disk_frames.specs.Starting.{IsMade, IsReadied}
use Rattle.evidence_rec.specs.declared.record.Record.{Record}
use Rattle.evidence_text.specs.Alone.{Written}
use Rattle.gm_journal.specs.declared.entry.Appended.{Appended}
use Rattle.gm_journal.specs.declared.salvaging.Salvaged.{Salvaged}
use Rattle.gm_journal.specs.declared.journal.Started.{Started}
use Rattle.gm_journal.specs.declared.journal.Started.TheVariants as started
use Rattle.gm_journal.specs.declared.journal.JournalClosing.{JournalClosing}
use Rattle.gm_journal.specs.declared.journal.JournalClosing.TheVariants as closing
use Rattle.gm_journal.specs.Entries.{OpeningView, EntryView, who_of}
use Rattle.gm_journal.specs.Histories.{count_in, MayAppend, Answers, IsLegal}
use Rattle.gm_journal.specs.Books.{BookState, IsKept, IsKeptOpen, IsOpenedOn, IsGoneOn, IsWhole}

-- ---- appending

-- the seat is one of this journal and has not ended, and the text is that of a record that is accepted for its problem
pub record MayCall (j : LockView OpeningView) (s : SeatView EntryView OpeningView) (w : Written) : Type 0 where
  pub of : IsSeatOf j s
  pub may : MayAppend j.opening s.number w s.mine

-- What an append does to its seat: it has seen all that it had seen, then entries of others, and last one entry of its own,
-- with the text and the answer. The whole of it is legal, so the answer is the one that the journal gives at that entry
pub record IsAppend (o : OpeningView) (s : SeatView EntryView OpeningView) (w : Written) (reply : Appended) (t : SeatView EntryView OpeningView) : Type 0 where
  pub same : IsSameSeat s t
  pub between : List EntryView
  pub entry : EntryView
  pub seen : t.seen ≡ (s.seen ++ between) ++ entry ∷ []
  pub others : calls_by who_of s.number between ≡ []
  pub by : entry.who ≡ s.number
  pub text_is : entry.text ≡ w
  pub reply_is : entry.reply ≡ reply
  pub mine : t.mine ≡ s.mine ++ entry ∷ []
  pub own : calls_by who_of s.number t.seen ≡ t.mine
  pub is_legal : IsLegal o t.seen
  pub short : length t.seen < 2 ^ 63
  pub answers : Answers o (s.seen ++ between) w reply

-- ---- starting

-- the journal is one of this problem and of these records, with so many seats
pub record IsOpeningFor (p : Problem) (rs : List Record) (count : ℕ) (o : OpeningView) : Type 0 where
  pub problem : o.problem ≡ p
  pub records : o.records ≡ rs
  pub seats : o.seats ≡ count

-- what a start answers, where the disk was this one: of the disk that it leaves, and of the journal with its seats, which was opened
-- on that very disk
abbrev pub TellsStarted : {D : Type 0} → (D → DiskState) → D → Problem → Salvaged → ℕ → Started D → Type 0
TellsStarted {D} state disk p s count (started.Opened journal seats records) =
    IsOpeningFor p s.records count journal.opening
    × AreNew journal count seats.items
    × (records ≡ s.records)
    × ((now : D) × IsOpenedOn (state now) journal.opening
    × IsReadied state disk now s.last
    × IsMade (state disk) (state now) s.gate s.last
    × ((state now).faults ≡ (state disk).faults)
    × ((bytes : List ℕ) → (state now).reads ≡ Some bytes → IsKept (state now) journal.opening [] s.gate))
TellsStarted state disk p s count (started.Failed now) = IsReadied state disk now s.last × Rose (state disk).faults (state now).faults
TellsStarted state disk p s count (started.Memory now) = IsReadied state disk now s.last × ((state now).faults ≡ (state disk).faults)

-- what putting a book behind a lock answers
abbrev pub IsShared : {D : Type 0} → BookState D → ℕ → List Record → Started D → Type 0
IsShared book count records (started.Opened journal seats told) = (journal.opening ≡ book.opening) × AreNew journal count seats.items × (told ≡ records)
IsShared book count records (started.Failed now) = ⊥
IsShared book count records (started.Memory now) = now ≡ book.disk

-- ---- closing

-- One history has the appends of all seats and nothing else. The disk's count of faults is the opening's, or the one that an
-- append answered; and until one failed the disk, where it tells, has the opening's records and what was put behind them. Whatever
-- failed, it is the disk of the opening gone on; and where it tells, no record is lost that was acknowledged, and none is made up
pub record IsLeft (disk : DiskState) (o : OpeningView) (seats : List (SeatView EntryView OpeningView)) : Type 0 where
  pub history : List EntryView
  pub seats_are : HasAll who_of IsLegal o seats history
  pub gate : ℕ
  pub kept : IsKeptOpen disk o history gate
  pub count : disk.faults ≡ count_in o.faults history
  pub gone_on : IsGoneOn disk o history
  pub whole : IsSome disk.reads → IsWhole disk o history

-- closing needs no memory, so that the journal is held is no answer
abbrev pub TellsClosing : {D : Type 0} → (D → DiskState) → OpeningView → List (SeatView EntryView OpeningView) → JournalClosing D → Type 0
TellsClosing state o seats (closing.Ended disk) = IsLeft (state disk) o seats
TellsClosing state o seats (closing.Held journal rest) = ⊥
