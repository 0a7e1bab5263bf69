-- What a look at a clause for literals that are not false answers.
use Rattle.std.specs.Prelude.{◌≡◌, false, List, [], ℤ, Some, None}
use Rattle.sat_base.specs.Derivation.{only_lit, is_nil}
use Rattle.lrat_check.specs.declared.follow.Opened.{Opened}
use Rattle.lrat_check.specs.declared.follow.Opened.TheVariants.{Nothing, One, Many}

abbrev pub IsOpened : List ℤ → Opened → Type 0
IsOpened open_ones Nothing = open_ones ≡ []
IsOpened open_ones (One lit) = only_lit open_ones ≡ Some lit
IsOpened open_ones Many = (only_lit open_ones ≡ None) × (is_nil open_ones ≡ false)
