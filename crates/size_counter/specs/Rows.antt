-- Worked examples, computed from the definitions. The orders, the numbers of the variables and the clauses were worked out by
-- hand.
use Rattle.std.specs.Prelude.{◌≡◌, ℕ, true, false, List, [], ◌∷◌, pos, negsuc}
use Rattle.std.proofs.Common.{refl}
use Rattle.gm_base.specs.declared.kind.Kind.TheVariants.{Conflict, Correction}
use Rattle.gm_base.specs.Explored.{Found}
use Rattle.size_counter.specs.Sizes.{size_for}
use Rattle.size_counter.specs.Counter.{counter, limit, how_many_count}
use Rattle.size_counter.specs.Names.{first_named, names_of}
use Rattle.size_counter.specs.Levels.{level, level_counter, level_vars, level_limit}

abbrev conflict : List ℕ → Found
conflict set = record { kind = Conflict; set = set }

abbrev correction : List ℕ → Found
correction set = record { kind = Correction; set = set }

-- both conflicts of the first example and the correction 1, of a problem with four groups
abbrev pub three_found : List Found
three_found = conflict (1 ∷ 2 ∷ []) ∷ conflict (1 ∷ 3 ∷ 4 ∷ []) ∷ correction (1 ∷ []) ∷ []

pub each_is_named_once : first_named (3 ∷ 1 ∷ 3 ∷ 2 ∷ 1 ∷ []) ≡ 3 ∷ 1 ∷ 2 ∷ []
each_is_named_once = refl

pub conflicts_name : names_of Correction three_found ≡ record { kind = Correction; named = 1 ∷ 2 ∷ 3 ∷ 4 ∷ []; alone = [] }
conflicts_name = refl

pub corrections_name : names_of Conflict three_found ≡ record { kind = Conflict; named = 1 ∷ []; alone = 1 ∷ [] }
corrections_name = refl

-- at most one group out: of the rows, 1 has variable 5, 2 has 7 and 8, 3 has 9 and 10, and 4 has 11 and 12
pub one_out : level Correction 4 1 three_found ≡ record { kind = Correction; groups = 4; bound = 1; order = 1 ∷ 2 ∷ 3 ∷ 4 ∷ [] }
one_out = refl

pub one_out_counter :
    level_counter (level Correction 4 1 three_found)
    ≡ (pos 1 ∷ pos 5 ∷ [])
    ∷ (negsuc 4 ∷ pos 7 ∷ []) ∷ (pos 2 ∷ pos 7 ∷ []) ∷ (pos 2 ∷ negsuc 4 ∷ pos 8 ∷ [])
    ∷ (negsuc 6 ∷ pos 9 ∷ []) ∷ (pos 3 ∷ pos 9 ∷ []) ∷ (negsuc 7 ∷ pos 10 ∷ []) ∷ (pos 3 ∷ negsuc 6 ∷ pos 10 ∷ [])
    ∷ (negsuc 8 ∷ pos 11 ∷ []) ∷ (pos 4 ∷ pos 11 ∷ []) ∷ (negsuc 9 ∷ pos 12 ∷ []) ∷ (pos 4 ∷ negsuc 8 ∷ pos 12 ∷ [])
    ∷ []
one_out_counter = refl

pub one_out_limit : level_limit (level Correction 4 1 three_found) ≡ negsuc 11 ∷ []
one_out_limit = refl

pub one_out_vars : level_vars (level Correction 4 1 three_found) ≡ 12
one_out_vars = refl

-- without the second conflict two groups are counted
pub fewer_named : level_vars (level Correction 4 1 (conflict (1 ∷ 2 ∷ []) ∷ correction (1 ∷ []) ∷ [])) ≡ 8
fewer_named = refl

-- as many groups as may be out have no counter, and no variable of one
pub four_out : level_counter (level Correction 4 4 three_found) ≡ []
four_out = refl

pub four_out_vars : level_vars (level Correction 4 4 three_found) ≡ 4
four_out_vars = refl

pub four_out_limit : level_limit (level Correction 4 4 three_found) ≡ []
four_out_limit = refl

-- at most one group in: group 1 is, since it stands alone in a correction, and no other is counted
pub one_in : level Conflict 4 1 three_found ≡ record { kind = Conflict; groups = 4; bound = 0; order = [] }
one_in = refl

pub one_in_vars : level_vars (level Conflict 4 1 three_found) ≡ 4
one_in_vars = refl

-- two groups stand alone and one may be in: the first that was named is left out, and the other is counted
abbrev pub two_sure : List Found
two_sure = correction (2 ∷ []) ∷ correction (1 ∷ 3 ∷ []) ∷ correction (1 ∷ []) ∷ []

pub one_of_two : level Conflict 3 1 two_sure ≡ record { kind = Conflict; groups = 3; bound = 0; order = 1 ∷ 3 ∷ [] }
one_of_two = refl

pub one_of_two_counter : level_counter (level Conflict 3 1 two_sure) ≡ (negsuc 0 ∷ pos 4 ∷ []) ∷ (negsuc 3 ∷ pos 5 ∷ []) ∷ (negsuc 2 ∷ pos 5 ∷ []) ∷ []
one_of_two_counter = refl

pub one_of_two_limit : level_limit (level Conflict 3 1 two_sure) ≡ negsuc 4 ∷ []
one_of_two_limit = refl

-- where none may be in, none is left out
pub none_of_two : level Conflict 3 0 two_sure ≡ record { kind = Conflict; groups = 3; bound = 0; order = 2 ∷ 1 ∷ 3 ∷ [] }
none_of_two = refl

-- with groups 1 and 3 in, one of 1 and 2 is in, and the other is out
pub in_are_counted : how_many_count (true ∷ false ∷ true ∷ []) Conflict (1 ∷ 2 ∷ []) ≡ 1
in_are_counted = refl

pub out_are_counted : how_many_count (true ∷ false ∷ false ∷ []) Correction (3 ∷ 1 ∷ 2 ∷ []) ≡ 2
out_are_counted = refl

pub in_of_four : size_for Conflict 4 (1 ∷ []) ≡ 1
in_of_four = refl

pub out_of_four : size_for Correction 4 (1 ∷ []) ≡ 3
out_of_four = refl

-- no group may be counted of none
pub counter_of_none : counter 0 0 Conflict [] ≡ []
counter_of_none = refl

pub limit_of_none : limit 0 0 [] ≡ []
limit_of_none = refl
