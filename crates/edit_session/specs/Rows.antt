-- Worked examples, computed from the definitions. The wanted places and numbers were worked out by hand.
use Rattle.std.specs.Prelude.{◌≡◌, ◌++◌, true, false, [], ◌∷◌, pos, negsuc, Some, None}
use Rattle.std.proofs.Common.{refl}
use Rattle.gm_base.specs.Problem.{Problem}
use Rattle.gm_base.specs.Rows.{in_group, four_clauses}
use Rattle.gm_base.specs.EvidenceRows.{one_step, first_proof}
use Rattle.edit_session.specs.Extends.{first_break}
use Rattle.edit_session.specs.Carried.{carried_proof, carried_witness}
use Rattle.edit_session.specs.Opening.{up_to}

-- the four clauses and x again, in a group of its own
abbrev pub five_clauses : Problem
five_clauses = record { vars = 2; groups = 5; clauses = four_clauses.clauses ++ in_group 5 (pos 1 ∷ []) ∷ [] }

pub a_group_more : first_break four_clauses five_clauses ≡ None
a_group_more = refl

pub the_same : first_break four_clauses four_clauses ≡ None
the_same = refl

-- with x in place of not x
pub another_clause :
    first_break four_clauses
    (record {
      vars = 2;
      groups = 4;
      clauses = in_group 1 (pos 1 ∷ []) ∷ in_group 2 (pos 1 ∷ []) ∷ in_group 3 (negsuc 0 ∷ pos 2 ∷ []) ∷ in_group 4 (negsuc 1 ∷ []) ∷ [];
    })
    ≡ Some 2
another_clause = refl

pub a_clause_in_an_old_group : first_break four_clauses (record { vars = 2; groups = 4; clauses = four_clauses.clauses ++ in_group 4 (pos 1 ∷ []) ∷ [] }) ≡ Some 5
a_clause_in_an_old_group = refl

pub a_clause_is_gone : first_break five_clauses (record { vars = 2; groups = 5; clauses = four_clauses.clauses }) ≡ Some 5
a_clause_is_gone = refl

pub a_variable_is_gone : first_break (record { vars = 1; groups = 0; clauses = [] }) (record { vars = 0; groups = 0; clauses = [] }) ≡ Some 0
a_variable_is_gone = refl

-- three variables, and a clause more in a new group: the selectors of groups 1 and 2 move from 3 and 4 to 4 and 5, and the
-- step from 5 to 6
abbrev pub more_of_all : Problem
more_of_all = record { vars = 3; groups = 5; clauses = four_clauses.clauses ++ in_group 5 (pos 3 ∷ []) ∷ [] }

pub first_proof_carried : carried_proof four_clauses more_of_all first_proof ≡ one_step 6 (negsuc 3 ∷ negsuc 4 ∷ []) (1 ∷ 2 ∷ [])
first_proof_carried = refl

-- ids with gaps get numbers without
pub gaps_close :
    carried_proof four_clauses more_of_all
    (record {
      steps = record { id = 7; lits = negsuc 2 ∷ negsuc 3 ∷ []; hints = 1 ∷ 2 ∷ [] } ∷ record { id = 9; lits = negsuc 2 ∷ negsuc 3 ∷ negsuc 4 ∷ []; hints = 7 ∷ [] } ∷ [];
      goal = 9;
    })
    ≡ record {
      steps = record { id = 6; lits = negsuc 3 ∷ negsuc 4 ∷ []; hints = 1 ∷ 2 ∷ [] } ∷ record { id = 7; lits = negsuc 3 ∷ negsuc 4 ∷ negsuc 5 ∷ []; hints = 6 ∷ [] } ∷ [];
      goal = 7;
    }
gaps_close = refl

pub new_variables_are_false : carried_witness more_of_all (true ∷ false ∷ []) ≡ true ∷ false ∷ false ∷ []
new_variables_are_false = refl

pub old_groups : up_to 4 (2 ∷ 4 ∷ 5 ∷ []) ≡ 2 ∷ 4 ∷ []
old_groups = refl
