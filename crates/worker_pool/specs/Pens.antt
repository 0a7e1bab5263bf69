-- What a worker writes into a journal, by its pen, which is a seat there.
--
-- Each record of a worker that was new at the board is appended, before its worker takes another job. If the append is
-- answered that the journal is closed or that the disk failed, the worker retires for the journal, and for want of memory if
-- that was wanting.
use Rattle.std.specs.Prelude.{◌≡◌, ℕ, zero, suc, ◌<◌, Bool, true, false, List, [], ◌∷◌, map, Option, Some, None}
use Rattle.std.specs.List.{list_any, AllByRecursion}
use Rattle.gm_base.specs.Problem.{Problem}
use Rattle.gm_base.specs.Explored.{Found}
use Rattle.evidence_text.specs.Alone.{Written, written_of}
use Rattle.turn_lock.specs.Seats.{LockView, SeatView, IsSeatOf, IsSameSeat, AreNew}
use Rattle.map_core.specs.declared.entry.Entry.{Entry}
use Rattle.map_core.specs.declared.entry.Opening.{Opening}
use Rattle.map_core.specs.Own.{new_in, brought_in, is_retirement}
use Rattle.map_core.specs.Closings.{is_cut_off}
use Rattle.gm_journal.specs.declared.entry.Appended.{Appended}
use Rattle.gm_journal.specs.declared.entry.Appended.TheVariants as appended
use Rattle.gm_journal.specs.Entries.{OpeningView, EntryView}

abbrev pub JournalView : Type 0
JournalView = LockView OpeningView

abbrev pub PenView : Type 0
PenView = SeatView EntryView OpeningView

-- what was appended with this pen, if there is one
abbrev pub written_by : Option PenView → List EntryView
written_by None = []
written_by (Some pen) = pen.mine

-- the kind and the set that were appended
abbrev pub set_in : EntryView → Found
set_in e = e.text.found

-- and with its lines
abbrev pub text_in : EntryView → Written
text_in e = e.text

-- the journal has the record
abbrev pub is_there : Appended → Bool
is_there appended.Ok = true
is_there appended.Already = true
is_there appended.Closed = false
is_there (appended.Failed count) = false
is_there appended.Memory = false

-- the journal takes no records any more
abbrev pub is_refused : Appended → Bool
is_refused appended.Ok = false
is_refused appended.Already = false
is_refused appended.Closed = true
is_refused (appended.Failed count) = true
is_refused appended.Memory = false

-- the count with which an append failed, or else this one
abbrev pub failure_or : Option ℕ → Appended → Option ℕ
failure_or other appended.Ok = other
failure_or other appended.Already = other
failure_or other appended.Closed = other
failure_or other (appended.Failed count) = Some count
failure_or other appended.Memory = other

-- the count with which the first of these appends failed that did, if one did
abbrev pub failure_in : List EntryView → Option ℕ
failure_in [] = None
failure_in (e ∷ es) = failure_or (failure_in es) e.reply

-- the first that is there
abbrev pub first_some : List (Option ℕ) → Option ℕ
first_some [] = None
first_some (None ∷ rest) = first_some rest
first_some (Some n ∷ rest) = Some n

-- the count with which an append of one of these pens failed, if one did
abbrev pub failure_among : List PenView → Option ℕ
failure_among pens = first_some (map (λ (pen : PenView). failure_in pen.mine) pens)

-- the journal has all of these but maybe the last
abbrev pub AreThereBefore : List EntryView → Type 0
AreThereBefore [] = Unit {0}
AreThereBefore (e ∷ []) = Unit {0}
AreThereBefore (e ∷ f ∷ es) = (is_there e.reply ≡ true) × AreThereBefore (f ∷ es)

-- What a worker wrote that made these entries at the board, where it keeps a journal: its new records, in their order, each as
-- it was posted. It retired for the journal exactly where an append was refused; and where it did not retire, the journal has
-- them all, and else all but maybe the last
pub record HasWritten (keeps : Bool) (mine : List Entry) (written : List EntryView) : Type 0 where
  pub news : keeps ≡ true → map set_in written ≡ new_in mine
  pub texts : keeps ≡ true → map text_in written ≡ map written_of (brought_in mine)
  pub cut_off : is_cut_off mine ≡ list_any (λ (e : EntryView). is_refused e.reply) written
  pub there : list_any (λ (e : Entry). is_retirement e.reply) mine ≡ false → AllByRecursion (λ (e : EntryView). is_there e.reply ≡ true) written
  pub before : AreThereBefore written

-- the same of a worker that goes on
pub record IsWriting (keeps : Bool) (mine : List Entry) (written : List EntryView) : Type 0 where
  pub news : keeps ≡ true → map set_in written ≡ new_in mine
  pub texts : keeps ≡ true → map text_in written ≡ map written_of (brought_in mine)
  pub going : is_cut_off mine ≡ false
  pub there : AllByRecursion (λ (e : EntryView). is_there e.reply ≡ true) written

-- there is a pen exactly where there is a journal; it is one of the journal's seats, and the journal is of the problem
abbrev pub IsPenOf : Problem → Option JournalView → Option PenView → Type 0
IsPenOf p None None = Unit {0}
IsPenOf p None (Some pen) = ⊥
IsPenOf p (Some j) None = ⊥
IsPenOf p (Some j) (Some pen) = (j.opening.problem ≡ p) × IsSeatOf j pen × (pen.number < j.opening.seats)

-- the same pen, or none
abbrev pub IsSamePen : Option PenView → Option PenView → Type 0
IsSamePen None None = Unit {0}
IsSamePen None (Some t) = ⊥
IsSamePen (Some s) None = ⊥
IsSamePen (Some s) (Some t) = IsSameSeat s t

-- a journal that begins with the records of the opening, in their order, about its problem, and all its seats, one for each
-- worker, with which nothing was appended
pub record IsReady (o : Opening) (j : JournalView) (pens : List PenView) : Type 0 where
  pub problem : j.opening.problem ≡ o.problem
  pub records : j.opening.records ≡ o.records
  pub seats : j.opening.seats ≡ o.workers
  pub all : AreNew j o.workers pens

-- one of these for each of so many, while there are any
abbrev pub one_each : {A : Type 0} → ℕ → List A → List (Option A)
one_each zero xs = []
one_each (suc n) [] = None ∷ one_each n []
one_each (suc n) (x ∷ xs) = Some x ∷ one_each n xs

-- those that are there
abbrev pub all_some : {A : Type 0} → List (Option A) → List A
all_some [] = []
all_some (None ∷ rest) = all_some rest
all_some (Some x ∷ rest) = x ∷ all_some rest
