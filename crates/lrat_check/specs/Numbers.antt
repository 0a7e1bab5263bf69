-- The numbers and names of the reasons for which evidence is refused.
use Rattle.std.specs.Prelude.{ℕ, List, codes}
use Rattle.lrat_check.specs.declared.why.Why.{Why}
use Rattle.lrat_check.specs.declared.why.Why.TheVariants.{BadLine, BadNumber, Truncated, OtherProblem, TrailingText, TooLong, UnknownHint, NotUnit, NotFalse, HintsLeft, IdNotRising, BadLiteral, UnknownClause, NotRefuting, WitnessFails, RepeatedSet, UnknownRecord, NotInside}

abbrev pub number_of : Why → ℕ
number_of BadLine = 1
number_of BadNumber = 2
number_of Truncated = 3
number_of (OtherProblem counts) = 4
number_of TrailingText = 5
number_of TooLong = 6
number_of UnknownHint = 10
number_of NotUnit = 11
number_of NotFalse = 12
number_of HintsLeft = 13
number_of IdNotRising = 14
number_of BadLiteral = 15
number_of UnknownClause = 16
number_of NotRefuting = 17
number_of WitnessFails = 18
number_of RepeatedSet = 19
number_of UnknownRecord = 20
number_of NotInside = 21

abbrev pub name_of : Why → List ℕ
name_of BadLine = codes "BadLine"
name_of BadNumber = codes "BadNumber"
name_of Truncated = codes "Truncated"
name_of (OtherProblem counts) = codes "OtherProblem"
name_of TrailingText = codes "TrailingText"
name_of TooLong = codes "TooLong"
name_of UnknownHint = codes "UnknownHint"
name_of NotUnit = codes "NotUnit"
name_of NotFalse = codes "NotFalse"
name_of HintsLeft = codes "HintsLeft"
name_of IdNotRising = codes "IdNotRising"
name_of BadLiteral = codes "BadLiteral"
name_of UnknownClause = codes "UnknownClause"
name_of NotRefuting = codes "NotRefuting"
name_of WitnessFails = codes "WitnessFails"
name_of RepeatedSet = codes "RepeatedSet"
name_of UnknownRecord = codes "UnknownRecord"
name_of NotInside = codes "NotInside"
