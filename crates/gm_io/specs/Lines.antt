-- The lines on standard error that tell a number: which bound was reached, which conflict there isn't, where a file extends
-- another one no more, and where a journal is refused.
use Rattle.std.specs.Prelude.{ℕ, List, ◌++◌, codes}
use Rattle.std.specs.Fmt.{decimal}

abbrev pub budget_line : ℕ → List ℕ
budget_line conflicts = codes "gmus: budget of " ++ decimal conflicts ++ codes " conflicts spent\n"

abbrev pub limit_line : ℕ → List ℕ
limit_line limit = codes "gmus: limit of " ++ decimal limit ++ codes " records reached\n"

-- and the line that tells that there are fewer conflicts
abbrev pub no_conflict_line : ℕ → List ℕ
no_conflict_line number = codes "gmus: no conflict " ++ decimal number ++ codes "\n"

-- and the line that tells at which clause a file extends another one no more
abbrev pub no_extension_line : ℕ → List ℕ
no_extension_line place = codes "gmus: not an extension: clause " ++ decimal place ++ codes "\n"

-- and the line that tells at which byte a journal is refused
abbrev pub foreign_line : ℕ → List ℕ
foreign_line at = codes "gmus: journal refused at byte " ++ decimal at ++ codes "\n"
