-- Hints that are lent.
use Rattle.std.specs.Prelude.{ℕ, List, map}
use Rattle.sat_base.specs.Numbering.{number_by}
use Rattle.sat_base.specs.declared.hints.Ids as declared_ids
use Rattle.sat_base.specs.declared.hints.Ids.TheVariants as kept
use Rattle.sat_base.specs.declared.hints.Hints as declared
use Rattle.sat_base.specs.declared.hints.Hints.TheVariants as width

-- the ids that are kept, whatever their width
abbrev pub kept_ids : declared_ids.Ids → List ℕ
kept_ids (kept.Narrow ids) = ids.now
kept_ids (kept.Wide ids) = ids.now

-- the hints
abbrev pub ids_of : declared.Hints → List ℕ
ids_of (width.Narrow ids) = ids.now
ids_of (width.Wide ids) = ids.now
ids_of (width.Numbered ids by) = map (number_by by.now) (kept_ids ids)
