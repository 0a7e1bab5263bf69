-- The plain text of a problem (GCNF, the group-oriented CNF of the MUS track of the SAT competition 2011): the header and
-- a line a clause, with single blanks, no comments, and no leading zeros. Each problem has one.
use Rattle.std.specs.Prelude.{ℕ, ◌+◌, ◌*◌, ◌≤◌, ℤ, List, ◌++◌, length, codes}
use Rattle.std.specs.List.{flat_map}
use Rattle.std.specs.Fmt.{decimal, signed_decimal}
use Rattle.gm_base.specs.declared.clause.Clause.{Clause}
use Rattle.gm_base.specs.Problem.{Problem, IsProblem}
use Rattle.gcnf_text.specs.Grammar.{IsWithinLimits, Reads, literal_count, max_bytes}

-- literals, each behind a blank
abbrev pub literals_text : List ℤ → List ℕ
literals_text lits = flat_map (λ l. codes " " ++ signed_decimal l) lits

-- a clause: its group in braces, its literals, and 0
abbrev pub clause_line : Clause → List ℕ
clause_line clause = codes "{" ++ decimal clause.group ++ codes "}" ++ literals_text clause.lits ++ codes " 0\n"

-- `p gcnf`, the greatest variable, the number of clauses, and the greatest group
abbrev pub header_line : Problem → List ℕ
header_line p = codes "p gcnf " ++ decimal p.vars ++ codes " " ++ decimal (length p.clauses) ++ codes " " ++ decimal p.groups ++ codes "\n"

-- the whole text
abbrev pub plain_text : Problem → List ℕ
plain_text p = header_line p ++ flat_map clause_line p.clauses

-- the plain text of a problem is read as that problem, where both are within the limits
abbrev pub PlainIsRead : Type 0
PlainIsRead = (p : Problem) → IsProblem p → IsWithinLimits p → length (plain_text p) ≤ max_bytes → Reads (plain_text p) p

-- the plain text of a problem within the limits has at most 9 bytes for each literal, 12 more for each clause, and 32
abbrev pub PlainIsShort : Type 0
PlainIsShort = (p : Problem) → IsProblem p → IsWithinLimits p → length (plain_text p) ≤ 9 * literal_count p.clauses + 12 * length p.clauses + 32
