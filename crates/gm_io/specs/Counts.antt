-- The line of how many sets there are.
use Rattle.std.specs.Prelude.{ℕ, List, ◌++◌, codes, decimal}

-- the line of a drilling: how many groups there are, how many conflicts and how many corrections
unfoldable pub drill_line : ℕ → ℕ → ℕ → List ℕ
drill_line groups us ms = codes "drill " ++ decimal groups ++ codes " " ++ decimal us ++ codes " " ++ decimal ms ++ codes "\n"
