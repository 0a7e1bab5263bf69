-- Worked rows: the tokens of short texts, computed from the definitions.
use Rattle.std.specs.Prelude.{◌≡◌, ℕ, [], ◌∷◌, ◌++◌, pos, neg_ℤ, codes, replicate}
use Rattle.std.proofs.Common.{refl}
use Rattle.token_text.specs.Kinds.{Kind, Word, Number, OpenBrace, CloseBrace, kind_of, greatest}
use Rattle.token_text.specs.Tokens.{Token, Place, tokens_of, end_of}

abbrev pub at : ℕ → ℕ → Kind → Token
at line byte kind = record { kind = kind; line = line; byte = byte }

abbrev pub ends_at : ℕ → ℕ → Place
ends_at line byte = record { line = line; byte = byte }

-- ---- what a token's bytes write

pub numbers :
    (kind_of (codes "0") ≡ Number (pos 0))
    × (kind_of (codes "007") ≡ Number (pos 7))
    × (kind_of (codes "-7") ≡ Number (neg_ℤ (pos 7)))
    × (kind_of (codes "-0010") ≡ Number (neg_ℤ (pos 10)))
    × (kind_of (codes "9223372036854775807") ≡ Number (pos greatest))
    × (kind_of (codes "-9223372036854775807") ≡ Number (neg_ℤ (pos greatest)))
numbers = (refl, refl, refl, refl, refl, refl)

-- a value beyond the greatest counts as that value with its sign, in numbers of 19, 20 and 1,000 digits
pub great_numbers :
    (kind_of (codes "9223372036854775808") ≡ Number (pos greatest))
    × (kind_of (codes "-9223372036854775808") ≡ Number (neg_ℤ (pos greatest)))
    × (kind_of (codes "18446744073709551617") ≡ Number (pos greatest))
    × (kind_of (codes "-99999999999999999999") ≡ Number (neg_ℤ (pos greatest)))
    × (kind_of (replicate 1000 49) ≡ Number (pos greatest))
    × (kind_of (codes "-" ++ replicate 999 48 ++ codes "3") ≡ Number (neg_ℤ (pos 3)))
great_numbers = (refl, refl, refl, refl, refl, refl)

-- `-` with zeros only, signs alone, other signs, and bytes that are no digits make words
pub words :
    (kind_of (codes "-0") ≡ Word (codes "-0"))
    × (kind_of (codes "-000") ≡ Word (codes "-000"))
    × (kind_of (codes "-") ≡ Word (codes "-"))
    × (kind_of (codes "+") ≡ Word (codes "+"))
    × (kind_of (codes "+5") ≡ Word (codes "+5"))
    × (kind_of (codes "--5") ≡ Word (codes "--5"))
    × (kind_of (codes "5-") ≡ Word (codes "5-"))
    × (kind_of (codes "1e3") ≡ Word (codes "1e3"))
words = (refl, refl, refl, refl, refl, refl, refl, refl)

-- ---- places

-- the end stands just after the last byte, after a last LF in the next line, also behind a comment
pub ends :
    (end_of [] ≡ ends_at 1 1)
    × (end_of (codes "1 0") ≡ ends_at 1 4)
    × (end_of (codes "1 0\n") ≡ ends_at 2 1)
    × (end_of (codes "1\n\n \t") ≡ ends_at 3 3)
    × (end_of (codes "c x") ≡ ends_at 1 4)
    × (end_of (codes "c x\n") ≡ ends_at 2 1)
    × (tokens_of [] ≡ [])
    × (tokens_of (codes " \t\r\n\n ") ≡ [])
ends = (refl, refl, refl, refl, refl, refl, refl, refl)

pub free_white_space :
    tokens_of (codes " p\tgcnf\r\n\n  -2 \r\n")
    ≡ at 1 2 (Word (codes "p")) ∷ at 1 4 (Word (codes "gcnf")) ∷ at 3 3 (Number (neg_ℤ (pos 2))) ∷ []
free_white_space = refl

-- braces are tokens of their own, with or without white space
pub braces :
    (tokens_of (codes "{1}2{")
    ≡ at 1 1 OpenBrace ∷ at 1 2 (Number (pos 1)) ∷ at 1 3 CloseBrace ∷ at 1 4 (Number (pos 2)) ∷ at 1 5 OpenBrace ∷ [])
    × (tokens_of (codes "a{-}b")
    ≡ at 1 1 (Word (codes "a")) ∷ at 1 2 OpenBrace ∷ at 1 3 (Word (codes "-")) ∷ at 1 4 CloseBrace
    ∷ at 1 5 (Word (codes "b")) ∷ [])
    × (tokens_of (codes "{ 3\n}") ≡ at 1 1 OpenBrace ∷ at 1 3 (Number (pos 3)) ∷ at 2 1 CloseBrace ∷ [])
braces = (refl, refl, refl)

-- a comment ends with its line, at LF alone
pub comments :
    (tokens_of (codes "c 1 {\n2") ≡ at 2 1 (Number (pos 2)) ∷ [])
    × (tokens_of (codes " \tc\n2\ncnf 3\r4\n5") ≡ at 2 1 (Number (pos 2)) ∷ at 4 1 (Number (pos 5)) ∷ [])
    × (tokens_of (codes "1\n  c") ≡ at 1 1 (Number (pos 1)) ∷ [])
comments = (refl, refl, refl)

-- `c` begins no comment behind another token, a brace or CR
pub no_comments :
    (tokens_of (codes "1 c") ≡ at 1 1 (Number (pos 1)) ∷ at 1 3 (Word (codes "c")) ∷ [])
    × (tokens_of (codes "\rc x") ≡ at 1 2 (Word (codes "c")) ∷ at 1 4 (Word (codes "x")) ∷ [])
    × (tokens_of (codes "{c") ≡ at 1 1 OpenBrace ∷ at 1 2 (Word (codes "c")) ∷ [])
    × (tokens_of (codes "C") ≡ at 1 1 (Word (codes "C")) ∷ [])
no_comments = (refl, refl, refl, refl)

-- NUL, VT, FF, the byte order mark and bytes that are not ASCII stand in words
pub other_bytes :
    (tokens_of (0 ∷ []) ≡ at 1 1 (Word (0 ∷ [])) ∷ [])
    × (tokens_of (49 ∷ 11 ∷ 50 ∷ 12 ∷ []) ≡ at 1 1 (Word (49 ∷ 11 ∷ 50 ∷ 12 ∷ [])) ∷ [])
    × (tokens_of (239 ∷ 187 ∷ 191 ∷ codes "p 1") ≡ at 1 1 (Word (239 ∷ 187 ∷ 191 ∷ codes "p")) ∷ at 1 6 (Number (pos 1)) ∷ [])
    × (tokens_of (255 ∷ 32 ∷ 195 ∷ 164 ∷ []) ≡ at 1 1 (Word (255 ∷ [])) ∷ at 1 3 (Word (195 ∷ 164 ∷ [])) ∷ [])
other_bytes = (refl, refl, refl, refl)
