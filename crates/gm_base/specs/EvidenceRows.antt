-- Worked evidence for the four clauses of `Rows`, checked by computation.
use Rattle.std.specs.Prelude.{◌≡◌, ℕ, Bool, true, false, List, [], ◌∷◌, take, pos, negsuc, ℤ}
use Rattle.std.proofs.Common.{refl}
use Rattle.sat_base.specs.Derivation.{Derivation, derives_within}
use Rattle.gm_base.specs.Evidence.{selector_form, refutes, AcceptsConflict}
use Rattle.gm_base.specs.declared.kind.Kind.TheVariants.{Conflict, Correction}
use Rattle.gm_base.specs.Explored.{Found, block_clause, is_explored, groups_true, is_model}
use Rattle.gm_base.specs.Rows.{four_clauses}
use Rattle.std.specs.Prelude.{map}
use Rattle.std.proofs.Common.{arith}

abbrev pub one_step : ℕ → List ℤ → List ℕ → Derivation
one_step id lits hints = record { steps = record { id = id; lits = lits; hints = hints } ∷ []; goal = id }

pub selectors_of_four_clauses :
    selector_form four_clauses ≡ (pos 1 ∷ negsuc 2 ∷ []) ∷ (negsuc 0 ∷ negsuc 3 ∷ []) ∷ (negsuc 0 ∷ pos 2 ∷ negsuc 4 ∷ []) ∷ (negsuc 1 ∷ negsuc 5 ∷ []) ∷ []
selectors_of_four_clauses = refl

-- groups 1 and 2: "1 or 2 is left out", by clauses 1 and 2
abbrev pub first_proof : Derivation
first_proof = one_step 5 (negsuc 2 ∷ negsuc 3 ∷ []) (1 ∷ 2 ∷ [])

-- groups 1, 3 and 4
abbrev pub second_proof : Derivation
second_proof = one_step 5 (negsuc 2 ∷ negsuc 4 ∷ negsuc 5 ∷ []) (1 ∷ 3 ∷ 4 ∷ [])

pub first_conflict : AcceptsConflict four_clauses (1 ∷ 2 ∷ []) first_proof ((false ∷ false ∷ []) ∷ (true ∷ false ∷ []) ∷ [])
first_conflict = record { is_set = (omega arith, (omega arith, tt)); refuted = refl; witnessed = refl }

pub second_conflict :
    AcceptsConflict four_clauses (1 ∷ 3 ∷ 4 ∷ []) second_proof ((false ∷ false ∷ []) ∷ (true ∷ false ∷ []) ∷ (true ∷ true ∷ []) ∷ [])
second_conflict = record { is_set = (omega arith, (omega arith, (omega arith, tt))); refuted = refl; witnessed = refl }

-- refused: hints in the wrong order, a step without its last hint, a proof that leaves out another group
pub hints_out_of_order : refutes four_clauses (1 ∷ 2 ∷ []) (one_step 5 (negsuc 2 ∷ negsuc 3 ∷ []) (2 ∷ 2 ∷ [])) ≡ false
hints_out_of_order = refl

pub hint_missing : refutes four_clauses (1 ∷ 2 ∷ []) (one_step 5 (negsuc 2 ∷ negsuc 3 ∷ []) (1 ∷ [])) ≡ false
hint_missing = refl

pub id_of_an_input : refutes four_clauses (1 ∷ 2 ∷ []) (one_step 4 (negsuc 2 ∷ negsuc 3 ∷ []) (1 ∷ 2 ∷ [])) ≡ false
id_of_an_input = refl

pub another_group : refutes four_clauses (1 ∷ 2 ∷ []) second_proof ≡ false
another_group = refl

-- the block clauses of all five sets, and the closing derivation of the empty clause over them
abbrev pub all_five : List Found
all_five =
    record { kind = Conflict; set = 1 ∷ 2 ∷ [] } ∷ record { kind = Conflict; set = 1 ∷ 3 ∷ 4 ∷ [] } ∷ record { kind = Correction; set = 1 ∷ [] }
    ∷ record { kind = Correction; set = 2 ∷ 3 ∷ [] } ∷ record { kind = Correction; set = 2 ∷ 4 ∷ [] } ∷ []

pub blocks_of_all_five :
    map block_clause all_five ≡ (negsuc 0 ∷ negsuc 1 ∷ []) ∷ (negsuc 0 ∷ negsuc 2 ∷ negsuc 3 ∷ []) ∷ (pos 1 ∷ []) ∷ (pos 2 ∷ pos 3 ∷ []) ∷ (pos 2 ∷ pos 4 ∷ []) ∷ []
blocks_of_all_five = refl

pub closing_of_all_five : derives_within 4 (map block_clause all_five) (one_step 6 [] (3 ∷ 1 ∷ 4 ∷ 5 ∷ 2 ∷ [])) (λ l. false) ≡ true
closing_of_all_five = refl

-- groups 1 and 3, a model of the first three block clauses; the last one, of groups 2 and 4, rules it out
abbrev pub first_and_third : List Bool
first_and_third = true ∷ false ∷ true ∷ false ∷ []

pub groups_of_model : groups_true first_and_third ≡ 1 ∷ 3 ∷ []
groups_of_model = refl

pub model_of_three : is_model (take 3 all_five) first_and_third ≡ true
model_of_three = refl

pub no_model_of_five : is_model all_five first_and_third ≡ false
no_model_of_five = refl

-- a conflict explores what holds it, a correction what misses it, and an empty set of either kind explores all
pub explored_by_conflict : is_explored (record { kind = Conflict; set = 1 ∷ 2 ∷ [] } ∷ []) (1 ∷ 2 ∷ 4 ∷ []) ≡ true
explored_by_conflict = refl

pub unexplored_by_conflict : is_explored (record { kind = Conflict; set = 1 ∷ 2 ∷ [] } ∷ []) (1 ∷ 4 ∷ []) ≡ false
unexplored_by_conflict = refl

pub explored_by_correction : is_explored (record { kind = Correction; set = 2 ∷ 3 ∷ [] } ∷ []) (1 ∷ 4 ∷ []) ≡ true
explored_by_correction = refl

pub explored_by_empty : is_explored (record { kind = Correction; set = [] } ∷ []) (1 ∷ 4 ∷ []) ≡ true
explored_by_empty = refl
