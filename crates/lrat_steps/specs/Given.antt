-- How clauses are kept that are given to solvers: the literals of all, one after another, and of each clause where its own end.
-- And which of them a log begins with: the first ones.
use Rattle.std.specs.Prelude.{◌≡◌, ℕ, ◌≤◌, ◌<◌, ◌^◌, List, [], ◌∷◌, length, take, ℤ, Option, Some, None, slice_range}
use Rattle.lrat_steps.specs.declared.given.Clauses.TheInside.{Inside}
use Rattle.lrat_steps.specs.declared.shown.Shown.TheInside as shown

-- the clauses that end at these places, of which the first begins at `from`
abbrev pub clauses_from : List ℤ → ℕ → List ℕ → List (List ℤ)
clauses_from lits from [] = []
clauses_from lits from (to ∷ ends) = slice_range lits from to ∷ clauses_from lits to ends

abbrev pub clauses_of : Inside → List (List ℤ)
clauses_of c = clauses_from c.lits.items 0 c.ends.items

-- the ends rise from `from` up to `last`, where the last clause ends
abbrev pub Rise : ℕ → ℕ → List ℕ → Type 0
Rise from last [] = from ≡ last
Rise from last (to ∷ ends) = (from ≤ to) × Rise to last ends

-- the ends cut all literals, and are few
pub record IsCut (c : Inside) : Type 0 where
  pub ends : Rise 0 (length c.lits.items) c.ends.items
  pub few : length c.ends.items < 2 ^ 32

-- the clauses that may be shown
abbrev pub given_in : Option (List (List ℤ)) → List (List ℤ)
given_in None = []
given_in (Some given) = given

abbrev pub shown_of : shown.Inside → List (List ℤ)
shown_of s = take s.count (given_in s.given)

-- no more are shown than there are
abbrev pub AreThere : shown.Inside → Type 0
AreThere s = s.count ≤ length (given_in s.given)
