-- What a checker is to its callers.
use Rattle.std.specs.Prelude.{ℕ, ◌<◌, ◌≤◌, List, [], ◌∷◌, ◌++◌, ℤ, Option, Some, None}
use Rattle.std.specs.List.{AllPairs}
use Rattle.lrat_check.specs.declared.why.Why.{Why}
use Rattle.lrat_check.specs.declared.checker.Checked.{Checked}
use Rattle.lrat_check.specs.declared.checker.Checked.TheVariants as answer

pub record State : Type 0 where
  pub vars : ℕ
  -- how many clauses were given, under the ids 1, 2 and so on
  pub inputs : ℕ
  -- these clauses, and then those of the accepted steps, under their ids, which ascend
  pub known : List (ℕ × List ℤ)
  -- how many more clauses fit with no more memory
  pub room : ℕ
  -- how many more literals do
  pub literal_room : ℕ

-- each id is above those before it
abbrev pub IdsAscend : List (ℕ × List ℤ) → Type 0
IdsAscend known = AllPairs (λ (a b : ℕ × List ℤ). a.0 < b.0) known

-- so many clauses, with so many literals together, fit with no more memory
pub record HasRoomFor (s : State) (count literals : ℕ) : Type 0 where
  pub clauses_fit : count ≤ s.room
  pub literals_fit : literals ≤ s.literal_room

-- what an answer says against the step
abbrev pub refusal_of : Checked → Option Why
refusal_of answer.Ok = None
refusal_of (answer.Refused why) = Some why

-- the clauses after an answer: one more exactly where the step was accepted
abbrev pub known_after : Checked → List (ℕ × List ℤ) → ℕ → List ℤ → List (ℕ × List ℤ)
known_after answer.Ok known id lits = known ++ (id, lits) ∷ []
known_after (answer.Refused why) known id lits = known
