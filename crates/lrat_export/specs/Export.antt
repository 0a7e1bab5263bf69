-- The refutation of a conflict's clauses by themselves: the proof of its record where the selectors of its groups are true
-- and all others false. What is true then goes, and what is left speaks of no selector.
--
-- The clauses of the CNF have the numbers from 1, and the steps that stay those behind them, without gaps.
use Rattle.std.specs.Prelude.{ℕ, suc, ◌+◌, ◌-◌, Bool, not, ◌==◌, ◌&&◌, List, [], ◌∷◌, ◌++◌, length, ℤ, pos, negsuc, neg_ℤ, nat_lt, nat_le, Option, Some, None, if◌then◌else◌, codes}
use Rattle.std.specs.List.{list_any, filter, find, flat_map}
use Rattle.std.specs.Option.{option_map_or}
use Rattle.std.specs.Fmt.{decimal}
use Rattle.sat_base.specs.Literals.{var_of}
use Rattle.sat_base.specs.Derivation.{Step, Derivation, contains_lit, open_lits, only_lit, is_nil, all_known}
use Rattle.gm_base.specs.Sets.{has}
use Rattle.gm_base.specs.Problem.{Problem}
use Rattle.gm_base.specs.Evidence.{selector_form}
use Rattle.lrat_export.specs.Cnf.{clauses_of, lits_text}

-- a literal of a selector: its variable stands behind those of the problem
abbrev pub is_selector : ℕ → ℤ → Bool
is_selector vars l = nat_lt vars (var_of l)

-- a literal of a selector that is true: where it is positive its group is in the set, and where it is negative it isn't
abbrev pub is_true : ℕ → List ℕ → ℤ → Bool
is_true vars set (pos v) = nat_lt vars v && has set (v - vars)
is_true vars set (negsuc v) = nat_lt vars (suc v) && not (has set (suc v - vars))

-- a clause that the selectors make true
abbrev pub is_settled : ℕ → List ℕ → List ℤ → Bool
is_settled vars set lits = list_any (is_true vars set) lits

-- a clause without the literals of selectors
abbrev pub bared : ℕ → List ℤ → List ℤ
bared vars lits = filter (λ l. not (is_selector vars l)) lits

-- a clause that stays, with the number that it gets
abbrev pub Numbered : Type 0
Numbered = ℕ × List ℤ

-- clauses under their ids, and of each whether it stays, with numbers that rise from the first
abbrev pub renumbered : ℕ → List ℕ → ℕ → List (ℕ × List ℤ) → List (ℕ × Option Numbered)
renumbered vars set number [] = []
renumbered vars set number (e ∷ es) =
    if is_settled vars set e.1 then (e.0, None) ∷ renumbered vars set number es
    else (e.0, Some (number, bared vars e.1)) ∷ renumbered vars set (number + 1) es

-- the clause of an id, where it stays
abbrev pub stays : List (ℕ × Option Numbered) → ℕ → Option Numbered
stays known id = option_map_or (λ (e : ℕ × Option Numbered). e.1) (find (λ (e : ℕ × Option Numbered). e.0 == id) known) None

-- where these literals are false, hints of clauses that stay, each of which makes a literal true that was not, up to the
-- first whose clause is wholly false
abbrev pub hints_of : List (ℕ × Option Numbered) → List ℤ → List ℕ → List ℕ
hints_of known falses [] = []
hints_of known falses (h ∷ hs) =
    option_map_or
    (λ (c : Numbered).
    if is_nil (open_lits falses c.1) then c.0 ∷ []
    else option_map_or
    (λ l. if contains_lit falses (neg_ℤ l) then hints_of known falses hs else c.0 ∷ hints_of known (neg_ℤ l ∷ falses) hs)
    (only_lit (open_lits falses c.1))
    (hints_of known falses hs))
    (stays known h)
    (hints_of known falses hs)

-- the steps that stay, with numbers that rise from the first
abbrev pub steps_of : ℕ → List ℕ → List (ℕ × Option Numbered) → ℕ → List Step → List Step
steps_of vars set known number [] = []
steps_of vars set known number (s ∷ ss) =
    if is_settled vars set s.lits then steps_of vars set known number ss
    else record { id = number; lits = bared vars s.lits; hints = hints_of known (bared vars s.lits) s.hints }
    ∷ steps_of vars set known (number + 1) ss

-- the steps up to that of the goal
abbrev pub up_to : ℕ → List Step → List Step
up_to goal [] = []
up_to goal (s ∷ ss) = s ∷ (if s.id == goal then [] else up_to goal ss)

-- all clauses of the proof, and the number of each that stays
abbrev pub known_of : Problem → List ℕ → Derivation → List (ℕ × Option Numbered)
known_of p set d = renumbered p.vars set 1 (all_known (selector_form p) d.steps)

-- the number of the clause behind those of the CNF
abbrev pub first_number : Problem → List ℕ → ℕ
first_number p set = length (clauses_of p set) + 1

-- the empty clause, which is that of the goal already
abbrev pub empty_step : ℕ → Option Numbered → Step
empty_step number goal = record { id = number; lits = []; hints = option_map_or (λ (c : Numbered). c.0 ∷ []) goal [] }

-- the whole refutation: the empty clause alone, where the goal is one of the problem's clauses
abbrev pub exported : Problem → List ℕ → Derivation → List Step
exported p set d =
    if nat_le d.goal (length p.clauses) then empty_step (first_number p set) (stays (known_of p set d) d.goal) ∷ []
    else steps_of p.vars set (known_of p set d) (first_number p set) (up_to d.goal d.steps)

-- a step: its number, its literals and 0, its hints and 0
abbrev pub step_text : Step → List ℕ
step_text s = decimal s.id ++ codes " " ++ lits_text s.lits ++ flat_map (λ h. codes " " ++ decimal h) s.hints ++ codes " 0\n"

abbrev pub lrat_text : Problem → List ℕ → Derivation → List ℕ
lrat_text p set d = flat_map step_text (exported p set d)
