-- Worked steps, computed from the definitions. The wanted answers were worked out by hand.
use Rattle.std.specs.Prelude.{◌≡◌, ℕ, List, [], ◌∷◌, ◌++◌, ℤ, pos, negsuc, Some, None}
use Rattle.std.proofs.Common.{refl}
use Rattle.lrat_check.specs.declared.why.Why.TheVariants.{UnknownHint, NotUnit, NotFalse, HintsLeft, IdNotRising, BadLiteral}
use Rattle.lrat_check.specs.Refusal.{step_refusal}

-- the clauses "1 or not 3" and "not 1 or not 4"
abbrev pub two_clauses : List (ℕ × List ℤ)
two_clauses = (1, pos 1 ∷ negsuc 2 ∷ []) ∷ (2, negsuc 0 ∷ negsuc 3 ∷ []) ∷ []

-- their resolvent "not 3 or not 4": where both are false, the first clause makes 1 true, and the second is false
pub resolvent : step_refusal 4 two_clauses 3 (negsuc 2 ∷ negsuc 3 ∷ []) (1 ∷ 2 ∷ []) ≡ None
resolvent = refl

-- the three, the resolvent with its id
abbrev pub three_clauses : List (ℕ × List ℤ)
three_clauses = two_clauses ++ (3, negsuc 2 ∷ negsuc 3 ∷ []) ∷ []

pub id_again : step_refusal 4 three_clauses 3 (negsuc 2 ∷ negsuc 3 ∷ []) (1 ∷ 2 ∷ []) ≡ Some IdNotRising
id_again = refl

-- "not 4" of the second clause is not false
pub last_is_open : step_refusal 4 three_clauses 4 (negsuc 2 ∷ []) (1 ∷ 2 ∷ []) ≡ Some NotFalse
last_is_open = refl

pub no_hints : step_refusal 4 three_clauses 4 (negsuc 2 ∷ []) [] ≡ Some NotFalse
no_hints = refl

pub variable_above : step_refusal 4 three_clauses 4 (pos 5 ∷ []) (1 ∷ []) ≡ Some BadLiteral
variable_above = refl

pub with_negation : step_refusal 4 three_clauses 4 (negsuc 1 ∷ pos 3 ∷ pos 2 ∷ []) (1 ∷ []) ≡ Some BadLiteral
with_negation = refl

-- the first hint is followed, and no clause has the id 5
pub no_such_clause : step_refusal 4 three_clauses 4 (negsuc 2 ∷ []) (1 ∷ 5 ∷ []) ≡ Some UnknownHint
no_such_clause = refl

-- a step can't name itself
pub own_id : step_refusal 4 three_clauses 4 (negsuc 2 ∷ []) (4 ∷ []) ≡ Some UnknownHint
own_id = refl

-- neither 1 nor "not 3" is false
pub two_open : step_refusal 4 three_clauses 4 (negsuc 1 ∷ []) (1 ∷ 2 ∷ []) ≡ Some NotUnit
two_open = refl

-- the third clause is false at once
pub false_too_early : step_refusal 4 three_clauses 4 (negsuc 2 ∷ negsuc 3 ∷ []) (3 ∷ 1 ∷ []) ≡ Some HintsLeft
false_too_early = refl

-- a hint whose one literal is true already is followed
pub true_already : step_refusal 4 three_clauses 9 (negsuc 2 ∷ negsuc 3 ∷ []) (1 ∷ 1 ∷ 2 ∷ []) ≡ None
true_already = refl

-- a repeated literal counts once, in a hint and in the clause of a step
pub repeated_literal : step_refusal 2 ((1, pos 2 ∷ pos 2 ∷ []) ∷ (5, negsuc 1 ∷ pos 1 ∷ []) ∷ []) 6 (pos 1 ∷ pos 1 ∷ []) (1 ∷ 5 ∷ []) ≡ None
repeated_literal = refl
