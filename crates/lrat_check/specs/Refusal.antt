-- What a step is refused for: the propagation part of LRAT (Cruz-Filipe, Heule, Hunt, Kaufmann and Schneider-Kamp 2017),
-- with a reason for each refusal.
use Rattle.std.specs.Prelude.{◌≡◌, ℕ, ◌-◌, ◌<◌, true, List, [], ◌∷◌, length, ℤ, neg_ℤ, nat_lt, Option, Some, None, if◌then◌else◌, slice_index_or}
use Rattle.std.specs.Option.{option_map_or}
use Rattle.sat_base.specs.Derivation.{clause_of, open_lits, only_lit, is_nil, is_step_clause, follows}
use Rattle.lrat_check.specs.declared.why.Why.{Why}
use Rattle.lrat_check.specs.declared.why.Why.TheVariants.{UnknownHint, NotUnit, NotFalse, HintsLeft, IdNotRising, BadLiteral}

-- the id of the last clause, which is the greatest so far; 0 where there is none
abbrev pub last_id : List (ℕ × List ℤ) → ℕ
last_id known = (slice_index_or known (length known - 1) (0, [])).0

-- these literals are false; a hint's clause has none that is not, one, which may be repeated and becomes true, or more
abbrev pub hints_refusal : List (ℕ × List ℤ) → List ℤ → List ℕ → Option Why
hints_refusal known falses [] = Some NotFalse
hints_refusal known falses (h ∷ []) =
    option_map_or
    (λ c. if is_nil (open_lits falses c) then None else Some NotFalse)
    (clause_of known h)
    (Some UnknownHint)
hints_refusal known falses (h ∷ h' ∷ hs) =
    option_map_or
    (λ c.
    if is_nil (open_lits falses c) then Some HintsLeft
    else option_map_or (λ l. hints_refusal known (neg_ℤ l ∷ falses) (h' ∷ hs)) (only_lit (open_lits falses c)) (Some NotUnit))
    (clause_of known h)
    (Some UnknownHint)

-- a clause over the variables, without a literal and its negation, all of whose literals are taken as false
abbrev pub clause_refusal : ℕ → List (ℕ × List ℤ) → List ℤ → List ℕ → Option Why
clause_refusal vars known lits hints = if is_step_clause vars lits then hints_refusal known lits hints else Some BadLiteral

-- why a step is refused, or that it isn't: first its id, then its literals, then its hints
abbrev pub step_refusal : ℕ → List (ℕ × List ℤ) → ℕ → List ℤ → List ℕ → Option Why
step_refusal vars known id lits hints =
    if nat_lt (last_id known) id then clause_refusal vars known lits hints else Some IdNotRising

-- the same in one: the step may stand behind these clauses in a derivation
pub record IsStep (vars : ℕ) (known : List (ℕ × List ℤ)) (id : ℕ) (lits : List ℤ) (hints : List ℕ) : Type 0 where
  pub rises : last_id known < id
  pub is_clause : is_step_clause vars lits ≡ true
  pub follow : follows known lits hints ≡ true
