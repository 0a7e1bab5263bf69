-- The index of the held sets.
use Rattle.std.specs.Prelude.{◌≡◌, ℕ, Bool, false, not, ◌&&◌, ◌||◌, List}
use Rattle.std.specs.Ordering.{nat_cmp}
use Rattle.std.specs.Cmp.Lexicographic.{slice_cmp}
use Rattle.std.specs.BTreeSet.{contains_by}
use Rattle.gm_base.specs.declared.kind.Kind.{Kind}
use Rattle.gm_base.specs.declared.kind.Kind.TheVariants.{Conflict, Correction}
use Rattle.evidence_rec.specs.declared.record.Record.{Record}
use Rattle.evidence_rec.specs.declared.held.Held.{Held}
use Rattle.evidence_rec.specs.Held.{same_kind, same_set, and_also, is_held}

abbrev pub holds : Held → Kind → List ℕ → Bool
holds held Conflict set = contains_by (slice_cmp nat_cmp set) held.conflicts
holds held Correction set = contains_by (slice_cmp nat_cmp set) held.corrections

pub record HoldsNothing (held : Held) : Type 0 where
  pub at : (kind : Kind) (set : List ℕ) → holds held kind set ≡ false

pub record IsSameHeld (old new : Held) : Type 0 where
  pub at : (kind : Kind) (set : List ℕ) → holds new kind set ≡ holds old kind set

-- this set of this kind is held, and the others as before
pub record Gains (kind : Kind) (set : List ℕ) (old new : Held) : Type 0 where
  pub at : (k : Kind) (q : List ℕ) → holds new k q ≡ (and_also (same_kind kind k) (same_set set q) || holds old k q)

-- this set of this kind is not held, and the others as before
pub record Loses (kind : Kind) (set : List ℕ) (old new : Held) : Type 0 where
  pub at : (k : Kind) (q : List ℕ) → holds new k q ≡ (not (and_also (same_kind kind k) (same_set set q)) && holds old k q)

-- it holds what the records hold
pub record IsIndex (held : Held) (records : List Record) : Type 0 where
  pub at : (kind : Kind) (set : List ℕ) → holds held kind set ≡ is_held records kind set
