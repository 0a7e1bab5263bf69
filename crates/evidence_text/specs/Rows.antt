-- Worked lines, computed from the definitions: heads about gm_base's four clauses, and the refutations of a correction of
-- the groups 2 and 3 of theirs, from line 17 on. The wanted answers were worked out by hand.
use Rattle.std.specs.Prelude.{◌≡◌, ℕ, List, [], ◌∷◌, negsuc, codes, Result, Ok, Err}
use Rattle.std.proofs.Common.{refl}
use Rattle.sat_base.specs.Derivation.{Derivation}
use Rattle.gm_base.specs.Rows.{four_clauses}
use Rattle.lrat_check.specs.declared.why.Why.TheVariants.{BadLine, BadNumber, Truncated}
use Rattle.evidence_rec.specs.declared.record.Refutation.{Refutation}
use Rattle.evidence_rec.specs.declared.record.Refutation.TheVariants.{Steps, Earlier}
use Rattle.evidence_text.specs.declared.goal.Goal.TheVariants.{Refutes}
use Rattle.evidence_text.specs.declared.offence.Offence.{Offence}
use Rattle.evidence_text.specs.declared.version.Version.{Version}
use Rattle.evidence_text.specs.declared.version.Version.TheVariants.{One, Two}
use Rattle.evidence_text.specs.Lines.{lines_of}
use Rattle.evidence_text.specs.Reading.{Below, below, offence, counts_at, head_words_at, head_at, step_at, goal_at, proof_at, refutation_at, refutations_at}

-- ---- heads

abbrev pub head_of_text : List ℕ → Result (Version × Below) Offence
head_of_text text = head_at four_clauses 1 (lines_of text)

pub first_version : head_of_text (codes "p gmev 1 2 4 4\n") ≡ Ok (One, below 2 [])
unfolding head_at head_words_at counts_at
first_version = refl

pub second_version : head_of_text (codes "p gmev 2 2 4 4\n") ≡ Ok (Two, below 2 [])
unfolding head_at head_words_at counts_at
second_version = refl

pub version_0 : head_of_text (codes "p gmev 0 2 4 4\n") ≡ Err (offence 1 BadNumber)
unfolding head_at head_words_at counts_at
version_0 = refl

pub version_3 : head_of_text (codes "p gmev 3 2 4 4\n") ≡ Err (offence 1 BadNumber)
unfolding head_at head_words_at counts_at
version_3 = refl

-- ---- refutations

-- those for the groups 2 and 3
abbrev pub refutations_of : Version → List ℕ → Result (List Refutation × Below) Offence
refutations_of version text = refutations_at version 6 (2 ∷ 3 ∷ []) 17 (lines_of text)

-- "not 3 or not 4" under the id 5
abbrev pub first_steps : Derivation
first_steps = record { steps = record { id = 5; lits = negsuc 2 ∷ negsuc 3 ∷ []; hints = 1 ∷ 2 ∷ [] } ∷ []; goal = 5 }

pub both_by_reference : refutations_of Two (codes "t 2 1\nt 3 2\n") ≡ Ok (Earlier 1 ∷ Earlier 2 ∷ [], below 19 [])
unfolding refutations_at refutation_at goal_at
both_by_reference = refl

pub one_of_each : refutations_of Two (codes "d 5 -3 -4 0 1 2 0\nr 2 5\nt 3 2\n") ≡ Ok (Steps first_steps ∷ Earlier 2 ∷ [], below 20 [])
unfolding refutations_at refutation_at proof_at step_at goal_at
one_of_each = refl

pub reference_in_version_1 : refutations_of One (codes "t 2 1\nt 3 2\n") ≡ Err (offence 17 BadLine)
unfolding refutations_at refutation_at proof_at
reference_in_version_1 = refl

pub reference_behind_a_step : refutations_of Two (codes "d 5 -3 -4 0 1 2 0\nt 2 1\nt 3 2\n") ≡ Err (offence 18 BadLine)
unfolding refutations_at refutation_at proof_at step_at
reference_behind_a_step = refl

-- a conflict's derivation is for the number 0
pub reference_in_a_conflict : proof_at 6 (Refutes 0) 17 (lines_of (codes "t 0 1\n")) ≡ Err (offence 17 BadLine)
unfolding proof_at
reference_in_a_conflict = refl

pub reference_for_another_group : refutations_of Two (codes "t 2 1\nt 2 2\n") ≡ Err (offence 18 BadNumber)
unfolding refutations_at refutation_at goal_at
reference_for_another_group = refl

pub record_0 : refutations_of Two (codes "t 2 0\nt 3 2\n") ≡ Err (offence 17 BadNumber)
unfolding refutations_at refutation_at goal_at
record_0 = refl

pub greatest_record : refutations_of Two (codes "t 2 9223372036854775807\nt 3 2\n") ≡ Ok (Earlier 9223372036854775807 ∷ Earlier 2 ∷ [], below 19 [])
unfolding refutations_at refutation_at goal_at
greatest_record = refl

pub record_above : refutations_of Two (codes "t 2 9223372036854775808\nt 3 2\n") ≡ Err (offence 17 BadNumber)
unfolding refutations_at refutation_at goal_at
record_above = refl

pub word_too_few : refutations_of Two (codes "t 2\nt 3 2\n") ≡ Err (offence 17 BadLine)
unfolding refutations_at refutation_at goal_at
word_too_few = refl

pub word_too_many : refutations_of Two (codes "t 2 1 0\nt 3 2\n") ≡ Err (offence 17 BadLine)
unfolding refutations_at refutation_at goal_at
word_too_many = refl

pub line_that_does_not_end : refutations_of Two (codes "t 2 1\nt 3 2") ≡ Err (offence 18 Truncated)
unfolding refutations_at refutation_at goal_at
line_that_does_not_end = refl
