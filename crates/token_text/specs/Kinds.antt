-- What the bytes of a token write: a brace, a number or a word (GCNF, the group-oriented CNF of the MUS track of the
-- SAT competition 2011, whose numbers are those of DIMACS CNF, in this project's profile).
use Rattle.std.specs.Prelude.{ℕ, ◌-◌, ◌^◌, ◌==◌, ◌&&◌, List, [], ◌∷◌, ℤ, pos, neg_ℤ, nat_lt, min, if◌then◌else◌, Option, Some, None, codes}
use Rattle.std.specs.Option.{option_map_or}
use Rattle.std.specs.Str.{all_ascii_digits, bytes_eq}
use Rattle.std.specs.Str.Parse.{digits_value}

-- what a token is by value
pub data Kind : Type 0 where
  Word : List ℕ → Kind
  Number : ℤ → Kind
  OpenBrace : Kind
  CloseBrace : Kind

-- the greatest absolute value that a number is told with: 9,223,372,036,854,775,807
abbrev pub greatest : ℕ
greatest = 2 ^ 63 - 1

-- the value of digits, told as the greatest where it is above that
abbrev pub value_of : List ℕ → ℕ
value_of digits = min (digits_value 10 digits) greatest

-- a number is digits, or `-` (45) and digits that are not all zero
abbrev pub number_of : List ℕ → Option ℤ
number_of [] = None
number_of (b ∷ bs) =
    if all_ascii_digits (b ∷ bs) then Some (pos (value_of (b ∷ bs)))
    else (if (b == 45) && all_ascii_digits bs && nat_lt 0 (value_of bs) then Some (neg_ℤ (pos (value_of bs))) else None)

-- a brace, a number, or else a word
abbrev pub kind_of : List ℕ → Kind
kind_of token =
    if bytes_eq token (codes "{") then OpenBrace
    else (if bytes_eq token (codes "}") then CloseBrace else option_map_or Number (number_of token) (Word token))
