-- Sets of groups, each as the strictly ascending list of its numbers (GCNF, the MUS track of the SAT competition 2011).
-- Group 0, the background, is in no set: it is always present.
use Rattle.std.specs.Prelude.{◌≡◌, ℕ, ◌<◌, Bool, true, false, not, ◌==◌, List, [], ◌∷◌, ◌++◌, map, nat_lt}
use Rattle.std.specs.List.{list_any, filter, range_with_len}

-- strictly ascending, and each number above the bound
abbrev pub AscendsAbove : ℕ → List ℕ → Type 0
AscendsAbove low [] = Unit {0}
AscendsAbove low (g ∷ gs) = (low < g) × AscendsAbove g gs

-- a set of groups: strictly ascending from 1 on
abbrev pub IsGroupSet : List ℕ → Type 0
IsGroupSet set = AscendsAbove 0 set

-- whether the group is in the set
abbrev pub has : List ℕ → ℕ → Bool
has set g = list_any (λ h. h == g) set

-- each group of the first set is in the second
abbrev pub IsSubset : List ℕ → List ℕ → Type 0
IsSubset small large = (g : ℕ) → has small g ≡ true → has large g ≡ true

-- a subset that lacks a group of the other
abbrev pub IsProperSubset : List ℕ → List ℕ → Type 0
IsProperSubset small large = IsSubset small large × ((g : ℕ) × (has large g ≡ true) × (has small g ≡ false))

-- the set without a group
abbrev pub without : List ℕ → ℕ → List ℕ
without set g = filter (λ h. not (h == g)) set

-- the set with a group: the lower ones, it, and the higher ones
abbrev pub with_group : List ℕ → ℕ → List ℕ
with_group set g = filter (λ h. nat_lt h g) set ++ (g ∷ filter (λ h. nat_lt g h) set)

-- all groups from 1 to this one
abbrev pub all_groups : ℕ → List ℕ
all_groups groups = range_with_len 1 groups

-- all groups outside the set
abbrev pub complement : ℕ → List ℕ → List ℕ
complement groups set = filter (λ g. not (has set g)) (all_groups groups)

-- the sublists with an element, in lexicographic order, a prefix first
abbrev pub nonempty_sublists : List ℕ → List (List ℕ)
nonempty_sublists [] = []
nonempty_sublists (g ∷ gs) = ((g ∷ []) ∷ map (λ s. g ∷ s) (nonempty_sublists gs)) ++ nonempty_sublists gs

-- all sublists, in lexicographic order, a prefix first
abbrev pub sublists : List ℕ → List (List ℕ)
sublists gs = [] ∷ nonempty_sublists gs

-- all sets of groups up to this one, in lexicographic order, a prefix first
abbrev pub subsets : ℕ → List (List ℕ)
subsets groups = sublists (all_groups groups)

-- the sublists that lack an element
abbrev pub proper_sublists : List ℕ → List (List ℕ)
proper_sublists [] = []
proper_sublists (g ∷ gs) = sublists gs ++ map (λ s. g ∷ s) (proper_sublists gs)
