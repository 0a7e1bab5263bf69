-- An index of conflicts by their groups, and when what serves for a group of a correction is found by that group alone.
use Rattle.std.specs.Prelude.{◌≡◌, ℕ, ◌+◌, ◌<◌, Bool, true, false, not, ◌==◌, ◌||◌, List, [], ◌∷◌, ◌++◌, length, slice_index_or, if◌then◌else◌}
use Rattle.std.specs.List.{AllByRecursion, list_all}
use Rattle.gm_base.specs.Sets.{has}
use Rattle.evidence_rec.specs.declared.record.Record.{Record}
use Rattle.evidence_rec.specs.declared.record.Record.TheVariants as record_of
use Rattle.evidence_rec.specs.Records.{set_of, is_inside}

-- whether it is a conflict that has the group
abbrev pub is_conflict_with : ℕ → Record → Bool
is_conflict_with g (record_of.Conflict set proof witnesses) = has set g
is_conflict_with g (record_of.Correction set witness proofs) = false

-- the places of the conflicts that have the group, where the first record stands at this one
abbrev pub places_from : ℕ → ℕ → List Record → List ℕ
places_from at g [] = []
places_from at g (r ∷ rs) = if is_conflict_with g r then at ∷ places_from (at + 1) g rs else places_from (at + 1) g rs

-- each list has the places of the conflicts with its group
abbrev pub IsIndexOf : List Record → List (List ℕ) → Type 0
IsIndexOf records lists = (g : ℕ) → g < length lists → slice_index_or lists g [] ≡ places_from 0 g records

-- the index of so many records has this one too
abbrev pub IndexesOneMore : ℕ → Record → List (List ℕ) → List (List ℕ) → Type 0
IndexesOneMore count r old new = (earlier : List Record) → length earlier ≡ count → IsIndexOf earlier old → IsIndexOf (earlier ++ r ∷ []) new

-- of the set's groups none but, maybe, this one has the place in its list
abbrev pub is_apart : List (List ℕ) → List ℕ → ℕ → ℕ → Bool
is_apart lists set g at = list_all (λ h. h == g || not (has (slice_index_or lists h []) at)) set

-- a conflict that serves for this group of the correction has it
abbrev pub ServesByGroup : List ℕ → ℕ → List Record → Type 0
ServesByGroup set g records = AllByRecursion (λ (r : Record). is_inside set g r ≡ true → has (set_of r) g ≡ true) records

-- so what serves in the correction is found by the index
pub record FindsServing (earlier : List Record) (set : List ℕ) (lists : List (List ℕ)) : Type 0 where
  pub is_index : IsIndexOf earlier lists
  pub within : (g : ℕ) → has set g ≡ true → g < length lists
  pub by_group : (g : ℕ) → has set g ≡ true → ServesByGroup set g earlier

-- of a conflict nothing is asked
abbrev pub CanShorten : List Record → Record → List (List ℕ) → Type 0
CanShorten earlier (record_of.Conflict set proof witnesses) lists = Unit {0}
CanShorten earlier (record_of.Correction set witness proofs) lists = FindsServing earlier set lists
