-- The text of the report, for two lists of sets in the order given.
use Rattle.std.specs.Prelude.{ℕ, Bool, List, ◌++◌, length, codes, if◌then◌else◌}
use Rattle.std.specs.List.{flat_map}
use Rattle.std.specs.Fmt.{decimal}

-- a line: a letter, the groups, and 0
abbrev pub set_line : List ℕ → List ℕ → List ℕ
set_line letter set = letter ++ flat_map (λ g. codes " " ++ decimal g) set ++ codes " 0\n"

unfoldable pub report_text : ℕ → Bool → List (List ℕ) → List (List ℕ) → List ℕ
report_text groups complete conflicts corrections =
    codes "p gmus " ++ decimal groups ++ codes "\n"
    ++ (if complete then codes "s COMPLETE\n" else codes "s PARTIAL\n")
    ++ flat_map (set_line (codes "u")) conflicts
    ++ flat_map (set_line (codes "m")) corrections
    ++ codes "e " ++ decimal (length conflicts) ++ codes " " ++ decimal (length corrections) ++ codes "\n"
