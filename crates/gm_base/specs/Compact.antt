-- Sets of groups that are kept by what they have, or by what they lack.
use Rattle.std.specs.Prelude.{ℕ, List}
use Rattle.gm_base.specs.declared.compact_set.Form.{Form}
use Rattle.gm_base.specs.declared.compact_set.Form.TheVariants.{Has, Lacks}
use Rattle.gm_base.specs.Sets.{complement}

-- the groups of a set that is kept so: those that it has, or all up to its greatest one but those that it lacks
abbrev pub groups_of : Form → List ℕ
groups_of (Has set) = set
groups_of (Lacks greatest lacked) = complement greatest lacked
