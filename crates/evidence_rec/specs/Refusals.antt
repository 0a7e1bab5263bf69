-- Why a record is refused, and at which of its lines, counted from 0. The first line that is refused counts.
--
-- Line 0 names the set. A conflict goes on with the steps of its proof, a line each, the line of the proof's goal, and a
-- line for each witness; a correction with the line of its witness, and for each group of the set either the steps of its
-- proof and the line of the goal, or the one line that names an earlier record. The steps are those of LRAT (Cruz-Filipe,
-- Heule, Hunt, Kaufmann and Schneider-Kamp 2017), and each proof begins anew from the clauses with their selectors.
use Rattle.std.specs.Prelude.{ℕ, ◌+◌, Bool, List, [], ◌∷◌, ◌++◌, length, ℤ, Option, Some, None, if◌then◌else◌}
use Rattle.std.specs.Ordering.{int_eq}
use Rattle.std.specs.List.{list_any, list_all}
use Rattle.std.specs.Option.{option_map, option_map_or, option_or}
use Rattle.gm_base.specs.Sets.{without, complement}
use Rattle.gm_base.specs.Problem.{Problem}
use Rattle.sat_base.specs.Derivation.{Step, Derivation, numbered, clause_of, all_known}
use Rattle.gm_base.specs.Evidence.{left_out, selector_form, is_witness}
use Rattle.lrat_check.specs.declared.why.Why.{Why}
use Rattle.lrat_check.specs.declared.why.Why.TheVariants.{UnknownClause, NotRefuting, WitnessFails, UnknownRecord, NotInside}
use Rattle.lrat_check.specs.Refusal.{step_refusal}
use Rattle.evidence_rec.specs.declared.record.Record.{Record}
use Rattle.evidence_rec.specs.declared.record.Record.TheVariants as record_of
use Rattle.evidence_rec.specs.declared.record.Refutation.{Refutation}
use Rattle.evidence_rec.specs.declared.record.Refutation.TheVariants.{Steps, Earlier}
use Rattle.evidence_rec.specs.Records.{numbered_record, is_inside}

-- a refusal at a line
abbrev pub at_line : ℕ → Option Why → Option (ℕ × Why)
at_line line why = option_map (λ w. (line, w)) why

-- why steps are refused, of which the first stands at this line
abbrev pub steps_refusal : ℕ → List (ℕ × List ℤ) → ℕ → List Step → Option (ℕ × Why)
steps_refusal vars known line [] = None
steps_refusal vars known line (s ∷ ss) =
    option_or
    (at_line line (step_refusal vars known s.id s.lits s.hints))
    (steps_refusal vars (known ++ (s.id, s.lits) ∷ []) (line + 1) ss)

-- whether the literal says that some group of the set is left out
abbrev pub leaves_out : Problem → List ℕ → ℤ → Bool
leaves_out p set l = list_any (λ g. int_eq (left_out p g) l) set

-- why a goal is refused: it has to name a clause that says that some group of the set is left out, and nothing else
abbrev pub goal_refusal : Problem → List ℕ → List (ℕ × List ℤ) → ℕ → Option Why
goal_refusal p set known goal =
    option_map_or
    (λ c. if list_all (leaves_out p set) c then None else Some NotRefuting)
    (clause_of known goal)
    (Some UnknownClause)

-- why a proof is refused that the set can't be satisfied, where its first line is this one
abbrev pub refutation_refusal : Problem → List ℕ → ℕ → Derivation → Option (ℕ × Why)
refutation_refusal p set line d =
    option_or
    (steps_refusal (p.vars + p.groups) (numbered 1 (selector_form p)) line d.steps)
    (at_line (line + length d.steps) (goal_refusal p set (all_known (selector_form p) d.steps) d.goal))

-- why an assignment is refused that has to satisfy the background and the set
abbrev pub witness_refusal : Problem → List ℕ → List Bool → Option Why
witness_refusal p set witness = if is_witness p set witness then None else Some WitnessFails

-- why the witnesses of these groups are refused, each of which has to satisfy the set without its group
abbrev pub witnesses_refusal : Problem → List ℕ → ℕ → List ℕ → List (List Bool) → Option (ℕ × Why)
witnesses_refusal p set line [] ws = None
witnesses_refusal p set line (g ∷ gs) [] = None
witnesses_refusal p set line (g ∷ gs) (w ∷ ws) =
    option_or (at_line line (witness_refusal p (without set g) w)) (witnesses_refusal p set (line + 1) gs ws)

-- why a number is refused that refutes the groups outside a correction with this one of it: it has to be that of an
-- earlier conflict which these groups hold
abbrev pub reference_refusal : List Record → List ℕ → ℕ → ℕ → Option Why
reference_refusal earlier set g i =
    option_map_or
    (λ r. if is_inside set g r then None else Some NotInside)
    (numbered_record earlier i)
    (Some UnknownRecord)

-- why a refutation of the groups outside a correction with this one of it is refused, where its first line is this one
abbrev pub group_refusal : Problem → List Record → List ℕ → ℕ → ℕ → Refutation → Option (ℕ × Why)
group_refusal p earlier set g line (Steps d) = refutation_refusal p (complement p.groups (without set g)) line d
group_refusal p earlier set g line (Earlier i) = at_line line (reference_refusal earlier set g i)

-- how many lines a refutation has before its last
abbrev pub steps_in : Refutation → ℕ
steps_in (Steps d) = length d.steps
steps_in (Earlier i) = 0

-- why the refutations for these groups are refused, each of which has to refute its group with all groups outside the set
abbrev pub refutations_refusal : Problem → List Record → List ℕ → ℕ → List ℕ → List Refutation → Option (ℕ × Why)
refutations_refusal p earlier set line [] rs = None
refutations_refusal p earlier set line (g ∷ gs) [] = None
refutations_refusal p earlier set line (g ∷ gs) (r ∷ rs) =
    option_or
    (group_refusal p earlier set g line r)
    (refutations_refusal p earlier set (line + steps_in r + 1) gs rs)

-- why a record is refused behind those before it
abbrev pub record_refusal : Problem → List Record → Record → Option (ℕ × Why)
record_refusal p earlier (record_of.Conflict set proof witnesses) =
    option_or (refutation_refusal p set 1 proof) (witnesses_refusal p set (1 + length proof.steps + 1) set witnesses)
record_refusal p earlier (record_of.Correction set witness proofs) =
    option_or
    (at_line 1 (witness_refusal p (complement p.groups set) witness))
    (refutations_refusal p earlier set 2 set proofs)
