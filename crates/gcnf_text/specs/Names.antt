-- The names of the offences.
use Rattle.std.specs.Prelude.{ℕ, List, ◌==◌, codes, if◌then◌else◌}

-- the name of an offence by its number, from 1 to 9
abbrev pub offence_name : ℕ → List ℕ
offence_name number =
    if number == 1 then codes "NoHeader"
    else (if number == 2 then codes "BadHeader"
    else (if number == 3 then codes "BadToken"
    else (if number == 4 then codes "VarTooBig"
    else (if number == 5 then codes "GroupTooBig"
    else (if number == 6 then codes "NoGroup"
    else (if number == 7 then codes "Truncated" else (if number == 8 then codes "TooManyClauses" else codes "TooLarge")))))))
