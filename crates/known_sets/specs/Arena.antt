-- How sets are laid out: all groups one after another, and of each set where its own begin and end.
use Rattle.std.specs.Prelude.{ℕ, ◌≤◌, List, slice_range}
use Rattle.known_sets.specs.declared.arena.Span.{Span}
use Rattle.known_sets.specs.declared.entry.Entry.{Entry}

-- the set of a span, with its evidence
abbrev pub entry_of : {E : Type 0} → List ℕ → Span E → Entry E
entry_of groups s = record { set = slice_range groups s.from s.to; evidence = s.evidence }

-- the span ends within so many groups
pub record IsSpan {E : Type 0} (groups : ℕ) (s : Span E) : Type 0 where
  pub ordered : s.from ≤ s.to
  pub within : s.to ≤ groups
