-- What each kind of step makes of the seat that takes it.
use Rattle.std.specs.Prelude.{◌≡◌, ◌≢◌, ℕ, ◌+◌, ◌^◌, ◌<◌, List, [], ◌∷◌, Option, Some, None}
use mathlib.Core.List.{IsPrefix}
use Rattle.atomic_table.specs.Table.{Me, Step}
use Rattle.turn_lock.specs.declared.view.Stage.{Stage}
use Rattle.turn_lock.specs.declared.view.Stage.TheVariants.{Idle, Waits, Holds, Spent}
use Rattle.turn_lock.specs.declared.view.Note.{Note}
use Rattle.turn_lock.specs.declared.view.View.{View}
use Rattle.turn_lock.specs.Calls.{calls_by}

-- the first seat, when so many seats were made and nobody has made a turn
abbrev pub made_view : {E O : Type 0} → O → ℕ → View E O
made_view start made = record { stage = Idle; number = 0; made = made; seen = []; mine = []; joined = []; opening = Some start }

-- the first seat of a new table
abbrev pub first_view : {E O : Type 0} → O → View E O
first_view start = made_view start 1

-- what is left of a seat that was joined into another
abbrev pub spent_view : {E O : Type 0} → View E O
spent_view = record { stage = Spent; number = 0; made = 0; seen = []; mine = []; joined = []; opening = None }

-- the same seat at another stage of its turn
abbrev pub at_stage : {E O : Type 0} → View E O → Stage → View E O
at_stage v stage = record { stage = stage; number = v.number; made = v.made; seen = v.seen; mine = v.mine; joined = v.joined; opening = v.opening }

-- the book is out with the seat, which has now seen its history
abbrev pub holding : {E O : Type 0} → View E O → ℕ → List E → View E O
holding v t log = record { stage = Holds t; number = v.number; made = v.made; seen = log; mine = v.mine; joined = v.joined; opening = v.opening }

-- the seat has given back the book, with this history
abbrev pub after_turn : {E O : Type 0} → (E → ℕ) → View E O → List E → View E O
after_turn caller v log = record { stage = Idle; number = v.number; made = v.made; seen = log; mine = calls_by caller v.number log; joined = v.joined; opening = v.opening }

-- draw: the seat has the ticket that it found
abbrev pub drawn : {S E O : Type 0} → Step S → Me S (View E O) → ℕ → Me S (View E O) → Type 0
drawn st m r m' = m' ≡ (at_stage m.0 (Waits r), m.1)

-- the book has gone on from all that the seat had seen, and the seat's own entries are all that it has of the seat
abbrev pub GoesOn : {B E O : Type 0} → (E → ℕ) → (B → List E) → (B → O) → View E O → B → Type 0
GoesOn caller history opening v y = (v.opening ≡ Some (opening y)) × IsPrefix v.seen (history y) × (calls_by caller v.number v.seen ≡ v.mine) × (calls_by caller v.number (history y) ≡ v.mine)

module _ {B E O : Type 0} (caller : E → ℕ) (history : B → List E) (opening : B → O) where
  -- look: the seat found its own ticket and has the book, or another one and nothing changed
  abbrev pub looked : Step (Option B) → Me (Option B) (View E O) → ℕ → Me (Option B) (View E O) → Type 0
  looked st m r m' =
      (m.0.stage ≡ Waits r → (y : B) × (m' ≡ (holding m.0 r (history y), (0, Some y) ∷ m.1)) × GoesOn caller history opening m.0 y × (r < 2 ^ 63))
      × (m.0.stage ≢ Waits r → m' ≡ m)

-- pass: the seat has seen the history of the book that it gave back
abbrev pub passed : {B E O : Type 0} → (E → ℕ) → (B → List E) → Step (Option B) → Me (Option B) (View E O) → ℕ → Me (Option B) (View E O) → Type 0
passed {B} caller history st m r m' = (y : B) → m.1 ≡ (0, Some y) ∷ [] → m' ≡ (after_turn caller m.0 (history y), [])

-- split: the first seat has made one more, whose number is how many there were
abbrev pub elder : {E O : Type 0} → View E O → View E O
elder v = record { stage = v.stage; number = v.number; made = v.made + 1; seen = v.seen; mine = v.mine; joined = v.joined; opening = v.opening }

-- and that one has seen nothing and made no entry
abbrev pub younger : {E O : Type 0} → View E O → View E O
younger v = record { stage = Idle; number = v.made; made = 0; seen = []; mine = []; joined = []; opening = v.opening }

-- what is kept of a seat that is joined
abbrev pub note_at : {E O : Type 0} → View E O → Note E O
note_at v = record { number = v.number; seen = v.seen; mine = v.mine; opening = v.opening }

-- join: the seat keeps what the other one knew, in front of what it has of others
abbrev pub taken_in : {E O : Type 0} → View E O → View E O → View E O
taken_in v w = record { stage = v.stage; number = v.number; made = v.made; seen = v.seen; mine = v.mine; joined = note_at w ∷ v.joined; opening = v.opening }

-- a seat that took in others
abbrev pub with_notes : {E O : Type 0} → View E O → List (Note E O) → View E O
with_notes v notes = record { stage = v.stage; number = v.number; made = v.made; seen = v.seen; mine = v.mine; joined = notes; opening = v.opening }
