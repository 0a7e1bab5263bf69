-- A seat between two turns, as it lies in its badge.
use Rattle.std.specs.Prelude.{◌≡◌, ℕ, List, [], ◌∷◌}
use Rattle.turn_lock.specs.declared.view.Stage.TheVariants.{Idle}
use Rattle.turn_lock.specs.declared.view.View.{View}
use Rattle.turn_lock.specs.Moves.{spent_view}
use Rattle.turn_lock.specs.Seats.{TableId, SeatView}

-- the view of a badge, which has one or none
abbrev pub view_of : {E O : Type 0} → List (View E O) → View E O
view_of [] = spent_view
view_of (v ∷ vs) = v

-- what callers see of a seat with this lock, number and view
abbrev pub seat_view : {E O : Type 0} → TableId → ℕ → View E O → SeatView E O
seat_view lock number v = record { lock = lock; opening = v.opening; number = number; made = v.made; seen = v.seen; mine = v.mine }

-- a badge of one view, of a seat that is in no turn and took in no other
pub record IsResting {E O : Type 0} (number : ℕ) (views : List (View E O)) : Type 0 where
  pub one : views ≡ view_of views ∷ []
  pub number_is : (view_of views).number ≡ number
  pub idle : (view_of views).stage ≡ Idle
  pub alone : (view_of views).joined ≡ []
