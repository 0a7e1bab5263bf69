-- What a number is where it is due, or an item of a list.
use Rattle.std.specs.Prelude.{ℕ, Bool, not, ◌==◌, ◌&&◌, ℤ, pos, neg_ℤ, nat_lt, nat_le, if◌then◌else◌, Option, Some, None, Result, Ok, Err}
use Rattle.lrat_check.specs.declared.why.Why.{Why}
use Rattle.lrat_check.specs.declared.why.Why.TheVariants.{BadNumber}

-- the number, where it is in the range
abbrev pub within : ℕ → ℕ → Option ℕ → Option ℕ
within low high None = None
within low high (Some n) = if nat_le low n && nat_le n high then Some n else None

-- none at 0, and else the number, where it is above the last one and in the range
abbrev pub item_of : ℕ → ℕ → Option ℕ → Result (Option ℕ) Why
item_of last high None = Err BadNumber
item_of last high (Some n) = if n == 0 then Ok None else (if nat_lt last n && nat_le n high then Ok (Some n) else Err BadNumber)

-- none at 0 that is not negated, and else the literal of the variable
abbrev pub literal_item_of : Bool → ℕ → Option ℕ → Result (Option ℤ) Why
literal_item_of negated vars None = Err BadNumber
literal_item_of negated vars (Some n) =
    if (n == 0) && not negated then Ok None
    else (if nat_lt 0 n && nat_le n vars then Ok (Some (if negated then neg_ℤ (pos n) else pos n)) else Err BadNumber)
