-- The rule between steps: what is so of the two words, the slot and the views of all seats whenever no step is being taken.
-- Word 0 is the next ticket, and word 1 the ticket that is served. The one slot has the book. The seat at place j of the table has the number j.
-- The two words are those of the ticket lock (Mellor-Crummey and Scott 1991); that the history is one list of whole calls is linearizability (Herlihy and Wing 1990).
use Rattle.std.specs.Prelude.{◌≡◌, ◌≢◌, ℕ, ◌+◌, ◌^◌, ◌<◌, ◌≤◌, Bool, true, false, List, [], ◌∷◌, length, slice_index, count_by, All, Option, Some, ◌⊎◌}
use mathlib.Core.Option.{some, none}
use mathlib.Core.Option as maybe
use mathlib.Core.List.{IsPrefix}
use lib.ListN.{get_elem?}
use Rattle.atomic_table.specs.Table.{State}
use Rattle.turn_lock.specs.declared.view.Stage.{Stage}
use Rattle.turn_lock.specs.declared.view.Stage.TheVariants.{Idle, Waits, Holds, Spent}
use Rattle.turn_lock.specs.declared.view.Note.{Note}
use Rattle.turn_lock.specs.declared.view.View.{View}
use Rattle.turn_lock.specs.Calls.{calls_by}
use Rattle.turn_lock.specs.Seats.{made_at}

-- the ticket that a seat has, from the draw to the pass
abbrev pub ticket_of : Stage → maybe.Option ℕ
ticket_of Idle = none
ticket_of (Waits t) = some t
ticket_of (Holds t) = some t
ticket_of Spent = none

-- the same as a test, from which the seats in a turn are counted
abbrev pub has_ticket : Stage → Bool
has_ticket Idle = false
has_ticket (Waits t) = true
has_ticket (Holds t) = true
has_ticket Spent = false

-- the seat has drawn a ticket and not passed the book on yet
abbrev pub is_in_turn : {E O : Type 0} → View E O → Bool
is_in_turn v = has_ticket v.stage

-- the seat at that place was joined into another
abbrev pub IsSpentAt : {E O : Type 0} → List (View E O) → ℕ → Type 0
IsSpentAt {E} {O} views k = (u : View E O) × (get_elem? views k ≡ some u) × (u.stage ≡ Spent)

-- a ticket lies from the one that is served up to the next one to be drawn. While a seat has the book out, its ticket is the one that is served, it has seen the whole history, and the slot is away
abbrev pub HasPlace : {B E : Type 0} → ℕ → ℕ → List (maybe.Option (Option B)) → List E → List E → Stage → Type 0
HasPlace ticket serving homes log seen Idle = Unit {0}
HasPlace ticket serving homes log seen (Waits t) = (serving ≤ t) × (t < ticket)
HasPlace ticket serving homes log seen (Holds t) = (t ≡ serving) × (t < ticket) × (seen ≡ log) × (homes ≡ none ∷ [])
HasPlace ticket serving homes log seen Spent = Unit {0}

-- what a seat knew when it was joined stays so, since it makes no more calls
pub record IsRightNote {E O : Type 0} (caller : E → ℕ) (start : O) (log : List E) (views : List (View E O)) (n : Note E O) : Type 0 where
  pub opening : n.opening ≡ Some start
  pub seen : IsPrefix n.seen log
  pub all : calls_by caller n.number log ≡ n.mine
  pub spent : IsSpentAt views n.number

-- what the seat at place j knows is so
pub record IsRight {B E O : Type 0} (caller : E → ℕ) (start : O) (ticket serving : ℕ) (homes : List (maybe.Option (Option B))) (log : List E) (views : List (View E O)) (j : ℕ) (v : View E O) : Type 0 where
  -- numbers are places, so no two seats have one number
  pub number : v.number ≡ j
  -- the first seat keeps how many were made
  pub made : v.made ≡ made_at j (length views)
  pub opening : v.opening ≡ Some start
  -- its history begins the longest one
  pub seen : IsPrefix v.seen log
  -- its entries are those of its own history, and past that history there are no others of it
  pub own : calls_by caller j v.seen ≡ v.mine
  pub all : calls_by caller j log ≡ v.mine
  pub place : HasPlace ticket serving homes log v.seen v.stage
  pub notes : All (IsRightNote caller start log views) v.joined

-- the book is in the slot, and its history is the longest one
abbrev pub IsHome : {B E O : Type 0} → (B → List E) → (B → O) → O → List (maybe.Option (Option B)) → List E → Type 0
IsHome {B} history opening start homes log = (y : B) × (homes ≡ some (Some y) ∷ []) × (history y ≡ log) × (opening y ≡ start)

-- the book is out with the seat whose ticket is served
abbrev pub IsOut : {E O : Type 0} → ℕ → List (View E O) → Type 0
IsOut {E} {O} serving views = (j : ℕ) × (v : View E O) × (get_elem? views j ≡ some v) × (v.stage ≡ Holds serving)

-- a seat that was joined had seen the whole history
abbrev pub HasNote : {E O : Type 0} → List E → List (Note E O) → Type 0
HasNote log [] = ⊥
HasNote log (n ∷ ns) = (n.seen ≡ log) ⊎ HasNote log ns

-- the seat has seen the whole history, or one that was joined into it had
abbrev pub HasSeen : {E O : Type 0} → List E → View E O → Type 0
HasSeen log v = (v.seen ≡ log) ⊎ HasNote log v.joined

-- some seat that was not joined into another has seen the whole history
abbrev pub IsSeen : {E O : Type 0} → List E → List (View E O) → Type 0
IsSeen {E} {O} log views = (j : ℕ) × (v : View E O) × (get_elem? views j ≡ some v) × (v.stage ≢ Spent) × HasSeen log v

-- The rule, of the two words, the slot and the views, where the book was opened with `start`
pub record Between {B E O : Type 0} (caller : E → ℕ) (legal : O → List E → Type 0) (history : B → List E) (opening : B → O) (start : O) (ticket serving : ℕ) (homes : List (maybe.Option (Option B))) (views : List (View E O)) : Type 0 where
  -- the longest history that a seat has seen: it is legal, and has an entry for each ticket that was served
  pub log : List E
  pub is_legal : legal start log
  pub longest : IsSeen log views
  pub served : length log ≡ serving
  -- no word wraps
  pub short : serving < 2 ^ 63
  pub few : length views ≤ 2 ^ 32
  -- a ticket is drawn for each seat that is in a turn, and no two have the same one
  pub drawn : ticket ≡ serving + count_by is_in_turn views
  pub apart : (i j : ℕ) (v w : View E O) (t : ℕ) → get_elem? views i ≡ some v → get_elem? views j ≡ some w → ticket_of v.stage ≡ some t → ticket_of w.stage ≡ some t → i ≡ j
  -- each entry names a seat, and each seat that was not joined into another is right
  pub named : All (λ e. caller e < length views) log
  pub seats : (j : ℕ) (v : View E O) → get_elem? views j ≡ some v → v.stage ≢ Spent → IsRight caller start ticket serving homes log views j v
  -- the slot is empty only while a seat has the ticket that is served
  pub book : IsHome history opening start homes log ⊎ IsOut serving views

-- the rule, of the table's state: it has two words, and between them, the slot and the views the rule holds
pub record Kept {B E O : Type 0} (caller : E → ℕ) (legal : O → List E → Type 0) (history : B → List E) (opening : B → O) (start : O) (s : State (Option B) (View E O)) : Type 0 where
  pub wide : length s.words ≡ 2
  pub between : Between caller legal history opening start (slice_index s.words 0) (slice_index s.words 1) s.homes s.views
