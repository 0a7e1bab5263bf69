-- What of a list of numbers a set knows.
use Rattle.std.specs.Prelude.{◌≡◌, ℕ, List}
use Rattle.std.specs.Ordering.{nat_cmp}
use Rattle.std.specs.BTreeSet.{BTreeSet, contains}
use Rattle.gm_base.specs.Sets.{has}
use Rattle.size_counter.specs.Sizes.{AreDistinct}

-- it has the same numbers
abbrev pub KnowsAll : BTreeSet ℕ → List ℕ → Type 0
KnowsAll set numbers = (g : ℕ) → contains nat_cmp set g ≡ has numbers g

-- and in the list each stands once
abbrev pub Knows : BTreeSet ℕ → List ℕ → Type 0
Knows set numbers = AreDistinct numbers × KnowsAll set numbers
