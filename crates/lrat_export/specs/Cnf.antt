-- The clauses that a set of groups can't be satisfied with, as a CNF by themselves (DIMACS).
use Rattle.std.specs.Prelude.{ℕ, ℤ, List, [], ◌++◌, map, length, codes, if◌then◌else◌}
use Rattle.std.specs.List.{filter, flat_map}
use Rattle.std.specs.Fmt.{decimal, signed_decimal}
use Rattle.gm_base.specs.declared.clause.Clause.{Clause}
use Rattle.gm_base.specs.Problem.{Problem, is_present}

-- the literals of the clauses of the background and of the groups of the set, in the problem's order
abbrev pub clauses_of : Problem → List ℕ → List (List ℤ)
clauses_of p set = map (λ (c : Clause). c.lits) (filter (is_present set) p.clauses)

-- literals, each before a blank, and 0
abbrev pub lits_text : List ℤ → List ℕ
lits_text lits = flat_map (λ l. signed_decimal l ++ codes " ") lits ++ codes "0"

-- `p cnf`, the number of variables and that of clauses, and each clause on a line
abbrev pub cnf_text : Problem → List ℕ → List ℕ
cnf_text p set =
    codes "p cnf " ++ decimal p.vars ++ codes " " ++ decimal (length (clauses_of p set)) ++ codes "\n"
    ++ flat_map (λ c. lits_text c ++ codes "\n") (clauses_of p set)

-- the line of a clause that is present, and nothing of another one
abbrev pub line_of : List ℕ → Clause → List ℕ
line_of set c = if is_present set c then lits_text c.lits ++ codes "\n" else []

abbrev pub lines_of : List ℕ → List Clause → List ℕ
lines_of set cs = flat_map (line_of set) cs
