-- The lines that tell why a file is refused, and why evidence is.
use Rattle.std.specs.Prelude.{ℕ, List, [], ◌++◌, codes, decimal, Option, Some, None}
use Rattle.gcnf_text.specs.declared.offence.Limit.{Limit}
use Rattle.gcnf_text.specs.declared.offence.Limit.TheVariants.{Vars, Clauses, Groups, Literals, Bytes}
use Rattle.gcnf_text.specs.declared.offence.Offence.{Offence}
use Rattle.gcnf_text.specs.Names.{offence_name}
use Rattle.lrat_check.specs.Numbers.{number_of, name_of}
use Rattle.evidence_text.specs.declared.offence.Offence.{Offence as Refusal}

-- the limit that is gone beyond, behind a blank
abbrev pub limit_text : Option Limit → List ℕ
limit_text None = []
limit_text (Some Vars) = codes " vars"
limit_text (Some Clauses) = codes " clauses"
limit_text (Some Groups) = codes " groups"
limit_text (Some Literals) = codes " literals"
limit_text (Some Bytes) = codes " bytes"

-- the number, the name, the limit if any, and the place
unfoldable pub refusal_line : Offence → List ℕ
refusal_line offence =
    codes "gmus: input refused: " ++ decimal offence.number ++ codes " " ++ offence_name offence.number ++ limit_text offence.limit
    ++ codes " at line " ++ decimal offence.line ++ codes " byte " ++ decimal offence.byte ++ codes "\n"

-- the line of the evidence, and the number and the name of what it is refused for
unfoldable pub evidence_line : Refusal → List ℕ
evidence_line refusal =
    codes "gmus: evidence refused: line " ++ decimal refusal.line ++ codes ": " ++ decimal (number_of refusal.why) ++ codes " "
    ++ name_of refusal.why ++ codes "\n"
