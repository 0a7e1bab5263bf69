-- How a text is read, token by token, and its first offence. What may come next is said by what is due; a token that may
-- not come there is refused by the number of an offence. The rows of a token are tried in order. The numbers: 1 no header,
-- 2 a bad header, 3 a token that may not come there, 4 a variable above the greatest, 5 a group above the greatest, 6 a
-- clause without its group, 7 the end too early, 8 a clause too many, 9 what is above a limit. The two forms of a text
-- part at the header's second word, and read literals alike.
use Rattle.std.specs.Prelude.{ℕ, ◌+◌, ◌==◌, List, [], ◌∷◌, length, ℤ, pos, negsuc, nat_abs, nat_lt, nat_le, codes, if◌then◌else◌, Option, Some, None}
use Rattle.std.specs.Str.{bytes_eq}
use Rattle.token_text.specs.Kinds.{Kind, Word, Number, OpenBrace, CloseBrace}
use Rattle.token_text.specs.Tokens.{Token, Place, tokens_of, end_of}
use Rattle.gcnf_text.specs.Grammar.{max_vars, max_clauses, max_groups, max_literals, max_bytes, is_end_mark}
use Rattle.gcnf_text.specs.declared.form.Form.{Form}
use Rattle.gcnf_text.specs.declared.form.Form.TheVariants.{Gcnf, Cnf}
use Rattle.gcnf_text.specs.declared.offence.Limit.{Limit}
use Rattle.gcnf_text.specs.declared.offence.Limit.TheVariants as limit
use Rattle.gcnf_text.specs.declared.offence.Offence.{Offence}

-- the header's numbers, and how many clauses were ended and literals read so far
pub record Sofar : Type 0 where
  pub vars : ℕ
  pub clauses : ℕ
  pub groups : ℕ
  pub ended : ℕ
  pub literals : ℕ

-- what is due: `p`, the form's word, the greatest variable, the number of clauses behind it, in GCNF the greatest group
-- behind both; then the next clause or the end, in GCNF a clause's group and the brace behind that, and a clause's
-- literals; and behind an end mark anything
pub data Due : Type 0 where
  Start : Due
  Format : Due
  Vars : Form → Due
  Clauses : Form → ℕ → Due
  Groups : ℕ → ℕ → Due
  Between : Form → Sofar → Due
  Group : Sofar → Due
  Close : Sofar → Due
  Literals : Form → Sofar → Due
  Rest : Due

-- a token goes on to what is due next, or is refused: by a number, and by the limit that it is above
pub data Verdict : Type 0 where
  Goes : Due → Verdict
  Refused : ℕ → Option Limit → Verdict

-- a refusal that has nothing to do with a limit
abbrev pub refused : ℕ → Verdict
refused number = Refused number None

-- ---- the rows

-- a number of the header, which has its limit
abbrev pub after_header_number : ℤ → ℕ → Limit → (ℕ → Due) → Verdict
after_header_number (pos n) most limit next = if nat_le n most then Goes (next n) else Refused 9 (Some limit)
after_header_number (negsuc n) most limit next = refused 2

-- behind the header nothing was ended or read yet
abbrev pub behind_header : ℕ → ℕ → ℕ → Sofar
behind_header vars clauses groups = record { vars = vars; clauses = clauses; groups = groups; ended = 0; literals = 0 }

-- the number of clauses in CNF, each of which is a group
abbrev pub after_own_groups : ℤ → ℕ → Verdict
after_own_groups (pos n) vars =
    if nat_lt max_clauses n then Refused 9 (Some limit.Clauses)
    else after_header_number (pos n) max_groups limit.Groups (λ clauses. Between Cnf (behind_header vars clauses clauses))
after_own_groups (negsuc n) vars = refused 2

-- a clause's group
abbrev pub after_group : ℤ → Sofar → Verdict
after_group (pos g) s = if nat_le g s.groups then Goes (Close s) else refused 5
after_group (negsuc g) s = refused 3

-- a literal, or 0, which ends the clause
abbrev pub after_literal : Form → ℤ → Sofar → Verdict
after_literal form l s =
    if nat_abs l == 0 then Goes (Between form (record s { ended = s.ended + 1 }))
    else (if nat_lt s.vars (nat_abs l) then refused 4
    else (if nat_le max_literals s.literals then Refused 9 (Some limit.Literals)
    else Goes (Literals form (record s { literals = s.literals + 1 }))))

-- an end mark, where the next clause or the end is due in CNF
abbrev pub after_end_mark : Sofar → Verdict
after_end_mark s = if nat_lt s.ended s.clauses then refused 7 else Goes Rest

-- what follows a token, by what is due
abbrev pub after : Due → Kind → Verdict
after Start (Word w) = if bytes_eq w (codes "p") then Goes Format else refused 1
after Start k = refused 1
after Format (Word w) =
    if bytes_eq w (codes "gcnf") then Goes (Vars Gcnf) else (if bytes_eq w (codes "cnf") then Goes (Vars Cnf) else refused 2)
after Format k = refused 2
after (Vars form) (Number n) = after_header_number n max_vars limit.Vars (Clauses form)
after (Vars form) k = refused 2
after (Clauses Gcnf vars) (Number n) = after_header_number n max_clauses limit.Clauses (Groups vars)
after (Clauses Gcnf vars) k = refused 2
after (Clauses Cnf vars) (Number n) = after_own_groups n vars
after (Clauses Cnf vars) k = refused 2
after (Groups vars clauses) (Number n) =
    after_header_number n max_groups limit.Groups (λ groups. Between Gcnf (behind_header vars clauses groups))
after (Groups vars clauses) k = refused 2
after (Between Gcnf s) OpenBrace = if nat_lt s.ended s.clauses then Goes (Group s) else refused 8
after (Between Gcnf s) (Number n) = if nat_lt s.ended s.clauses then refused 6 else refused 8
after (Between Gcnf s) k = refused 3
after (Between Cnf s) (Number l) = if nat_lt s.ended s.clauses then after_literal Cnf l s else refused 8
after (Between Cnf s) (Word w) = if is_end_mark w then after_end_mark s else refused 3
after (Between Cnf s) k = refused 3
after (Group s) (Number g) = after_group g s
after (Group s) k = refused 3
after (Close s) CloseBrace = Goes (Literals Gcnf s)
after (Close s) k = refused 3
after (Literals form s) (Number l) = after_literal form l s
after (Literals form s) k = refused 3
after Rest k = Goes Rest

-- the end of the text: accepted behind the last clause and behind an end mark, and else refused
abbrev pub at_end : Due → Option ℕ
at_end Start = Some 1
at_end Format = Some 2
at_end (Vars form) = Some 2
at_end (Clauses form vars) = Some 2
at_end (Groups vars clauses) = Some 2
at_end (Between form s) = if nat_lt s.ended s.clauses then Some 7 else None
at_end (Group s) = Some 7
at_end (Close s) = Some 7
at_end (Literals form s) = Some 7
at_end Rest = None

-- ---- the first offence

-- an offence by its number, limit, line and byte
abbrev pub offence_at : ℕ → Option Limit → ℕ → ℕ → Offence
offence_at number limit line byte = record { number = number; limit = limit; line = line; byte = byte }

-- the offence of the end, where it is refused
abbrev pub end_offence : Option ℕ → Place → Option Offence
end_offence None end = None
end_offence (Some number) end = Some (offence_at number None end.line end.byte)

-- a token's offence where it is refused, and else the first one behind it
abbrev pub offence_or : Verdict → Token → (Due → Option Offence) → Option Offence
offence_or (Goes due) t behind = behind due
offence_or (Refused number limit) t behind = Some (offence_at number limit t.line t.byte)

-- the first offence of tokens and then the end, where this is due
abbrev pub offence_from : Due → List Token → Place → Option Offence
offence_from due [] end = end_offence (at_end due) end
offence_from due (t ∷ ts) end = offence_or (after due t.kind) t (λ next. offence_from next ts end)

-- the first offence of a text: too many bytes, which have no place, and else that of its tokens
abbrev pub first_offence : List ℕ → Option Offence
first_offence text =
    if nat_lt max_bytes (length text) then Some (offence_at 9 (Some limit.Bytes) 0 0)
    else offence_from Start (tokens_of text) (end_of text)
