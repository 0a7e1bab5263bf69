-- Lists of sets in lexicographic order.
use Rattle.std.specs.Prelude.{ℕ, List}
use Rattle.std.specs.List.Sorted.{IsPermutation, IsSorted}
use Rattle.std.specs.Ordering.{nat_cmp}
use Rattle.std.specs.Cmp.Lexicographic.{slice_cmp}

-- the same sets in the order of their lists, compared as numbers, a prefix first
pub record IsSortedOf (sets sorted : List (List ℕ)) : Type 0 where
  pub same : IsPermutation sets sorted
  pub order : IsSorted (slice_cmp nat_cmp) sorted
