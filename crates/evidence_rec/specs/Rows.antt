-- Worked records about the four clauses of gm_base's rows, computed from the definitions. The wanted answers were worked
-- out by hand: "x", "not x", "x implies y" and "not y", where the selectors of the groups are the variables 3 to 6.
use Rattle.std.specs.Prelude.{◌≡◌, ℕ, true, false, List, [], ◌∷◌, negsuc, Some, None}
use Rattle.std.proofs.Common.{refl}
use Rattle.sat_base.specs.Derivation.{Derivation}
use Rattle.gm_base.specs.Rows.{four_clauses}
use Rattle.gm_base.specs.EvidenceRows.{one_step, first_proof, second_proof}
use Rattle.lrat_check.specs.declared.why.Why.TheVariants.{UnknownHint, NotUnit, NotFalse, HintsLeft, IdNotRising, BadLiteral, UnknownClause, NotRefuting, WitnessFails, UnknownRecord, NotInside}
use Rattle.evidence_rec.specs.declared.record.Record.{Record}
use Rattle.evidence_rec.specs.declared.record.Record.TheVariants as record_of
use Rattle.evidence_rec.specs.declared.record.Refutation.{Refutation}
use Rattle.evidence_rec.specs.declared.record.Refutation.TheVariants.{Steps, Earlier}
use Rattle.evidence_rec.specs.Refusals.{record_refusal}

-- x and not x, with a witness of each alone
abbrev pub first_with : Derivation → Record
first_with proof = record_of.Conflict (1 ∷ 2 ∷ []) proof ((false ∷ false ∷ []) ∷ (true ∷ false ∷ []) ∷ [])

-- the first proof's step, with other hints
abbrev pub hinted : List ℕ → Derivation
hinted hints = one_step 5 (negsuc 2 ∷ negsuc 3 ∷ []) hints

-- not x and x implies y, which leave x and not y
abbrev pub second_with : List Refutation → Record
second_with proofs = record_of.Correction (2 ∷ 3 ∷ []) (true ∷ false ∷ []) proofs

pub first_conflict : record_refusal four_clauses [] (first_with first_proof) ≡ None
first_conflict = refl

pub second_conflict :
    record_refusal four_clauses [] (record_of.Conflict (1 ∷ 3 ∷ 4 ∷ []) second_proof ((false ∷ false ∷ []) ∷ (true ∷ false ∷ []) ∷ (true ∷ true ∷ []) ∷ [])) ≡ None
second_conflict = refl

pub first_correction : record_refusal four_clauses [] (record_of.Correction (1 ∷ []) (false ∷ false ∷ []) (Steps first_proof ∷ [])) ≡ None
first_correction = refl

pub second_correction : record_refusal four_clauses [] (second_with (Steps first_proof ∷ Steps second_proof ∷ [])) ≡ None
second_correction = refl

pub hint_unknown : record_refusal four_clauses [] (first_with (hinted (1 ∷ 9 ∷ []))) ≡ Some (1, UnknownHint)
hint_unknown = refl

-- "x implies y" with its selector has two literals that are not false, until x is true
pub hints_out_of_order :
    record_refusal four_clauses [] (second_with (Steps first_proof ∷ Steps (one_step 5 (negsuc 2 ∷ negsuc 4 ∷ negsuc 5 ∷ []) (3 ∷ 1 ∷ 4 ∷ [])) ∷ [])) ≡ Some (4, NotUnit)
hints_out_of_order = refl

pub last_hint_missing : record_refusal four_clauses [] (first_with (hinted (1 ∷ []))) ≡ Some (1, NotFalse)
last_hint_missing = refl

pub hint_too_many : record_refusal four_clauses [] (first_with (hinted (1 ∷ 2 ∷ 2 ∷ []))) ≡ Some (1, HintsLeft)
hint_too_many = refl

pub id_of_an_input : record_refusal four_clauses [] (first_with (one_step 4 (negsuc 2 ∷ negsuc 3 ∷ []) (1 ∷ 2 ∷ []))) ≡ Some (1, IdNotRising)
id_of_an_input = refl

-- there are no more than six variables
pub variable_above : record_refusal four_clauses [] (first_with (one_step 5 (negsuc 2 ∷ negsuc 6 ∷ []) (1 ∷ 2 ∷ []))) ≡ Some (1, BadLiteral)
variable_above = refl

pub goal_is_no_clause : record_refusal four_clauses [] (first_with (record first_proof { goal = 6 })) ≡ Some (2, UnknownClause)
goal_is_no_clause = refl

-- "not y" says that group 4 is left out, or y
pub goal_is_another_input : record_refusal four_clauses [] (first_with (record first_proof { goal = 4 })) ≡ Some (2, NotRefuting)
goal_is_another_input = refl

-- x is not true
pub witness_fails :
    record_refusal four_clauses [] (record_of.Conflict (1 ∷ 2 ∷ []) first_proof ((false ∷ false ∷ []) ∷ (false ∷ false ∷ []) ∷ [])) ≡ Some (4, WitnessFails)
witness_fails = refl

-- y is true
pub witness_of_correction_fails :
    record_refusal four_clauses [] (record_of.Correction (2 ∷ 3 ∷ []) (true ∷ true ∷ []) (Steps first_proof ∷ Steps second_proof ∷ [])) ≡ Some (1, WitnessFails)
witness_of_correction_fails = refl

-- the first group's proof may not leave out group 3, which is of the set
pub proofs_exchanged : record_refusal four_clauses [] (second_with (Steps second_proof ∷ Steps first_proof ∷ [])) ≡ Some (3, NotRefuting)
proofs_exchanged = refl

-- a step of the proof before is no clause of the next
pub step_of_another_proof :
    record_refusal four_clauses [] (second_with (Steps first_proof ∷ Steps (record { steps = []; goal = 5 }) ∷ [])) ≡ Some (4, UnknownClause)
step_of_another_proof = refl

-- The same corrections behind the two conflicts and the first correction: "x" is refuted by record 1, of groups 1 and 2;
-- "not x" by record 1 too, and "x implies y" by record 2, of groups 1, 3 and 4.
abbrev pub first_three : List Record
first_three =
    first_with first_proof
    ∷ record_of.Conflict (1 ∷ 3 ∷ 4 ∷ []) second_proof ((false ∷ false ∷ []) ∷ (true ∷ false ∷ []) ∷ (true ∷ true ∷ []) ∷ [])
    ∷ record_of.Correction (1 ∷ []) (false ∷ false ∷ []) (Earlier 1 ∷ [])
    ∷ []

pub by_earlier_conflicts : record_refusal four_clauses first_three (second_with (Earlier 1 ∷ Earlier 2 ∷ [])) ≡ None
by_earlier_conflicts = refl

pub by_one_of_each : record_refusal four_clauses first_three (second_with (Steps first_proof ∷ Earlier 2 ∷ [])) ≡ None
by_one_of_each = refl

-- the record itself would be the fourth, and numbers begin at 1
pub its_own_number : record_refusal four_clauses first_three (second_with (Earlier 4 ∷ Earlier 2 ∷ [])) ≡ Some (2, UnknownRecord)
its_own_number = refl

pub number_0 : record_refusal four_clauses first_three (second_with (Steps first_proof ∷ Earlier 0 ∷ [])) ≡ Some (4, UnknownRecord)
number_0 = refl

-- record 1 has group 2, which is of the correction, and is not group 3
pub conflict_with_another_group : record_refusal four_clauses first_three (second_with (Earlier 1 ∷ Earlier 1 ∷ [])) ≡ Some (3, NotInside)
conflict_with_another_group = refl

pub number_of_a_correction : record_refusal four_clauses first_three (second_with (Earlier 1 ∷ Earlier 3 ∷ [])) ≡ Some (3, NotInside)
number_of_a_correction = refl
