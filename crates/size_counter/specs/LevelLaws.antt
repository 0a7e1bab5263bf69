-- What the counter of a level says, and which groups it counts.
use Rattle.std.specs.Prelude.{◌≡◌, ℕ, ◌+◌, ◌≤◌, Bool, true, false, ◌||◌, List, ◌∷◌, [], ◌++◌, length, ℤ}
use Rattle.std.specs.List.{list_all}
use Rattle.sat_base.specs.Members.{In}
use Rattle.sat_base.specs.Literals.{IsLiteral, literal_true, clause_true}
use Rattle.gm_base.specs.Sets.{has, IsSubset, all_groups}
use Rattle.gm_base.specs.declared.kind.Kind.{Kind}
use Rattle.gm_base.specs.Explored.{Found}
use Rattle.size_counter.specs.Sizes.{AreDistinct}
use Rattle.size_counter.specs.Counter.{how_many_count, IsOrder}
use Rattle.size_counter.specs.Names.{Naming, also, names_of}
use Rattle.size_counter.specs.Levels.{Level, left_out, level_by, level, level_counter, level_vars, level_limit}
use Rattle.size_counter.specs.Laws.{ExtendsAssignment}

-- each assignment of the groups at which at most the bound count extends to one of all variables
abbrev pub LevelFewExtend : Type 0
LevelFewExtend =
    (l : Level) (assign : List Bool)
    → IsOrder l.groups l.order
    → length assign ≡ l.groups
    → how_many_count assign l.kind l.order ≤ l.bound
    → (values : List Bool) × ExtendsAssignment l.groups (level_vars l) (level_counter l) (level_limit l) assign values

-- and no other does
abbrev pub LevelExtendedAreFew : Type 0
LevelExtendedAreFew =
    (l : Level) (values : List Bool)
    → IsOrder l.groups l.order
    → list_all (clause_true values) (level_counter l) ≡ true
    → list_all (literal_true values) (level_limit l) ≡ true
    → how_many_count values l.kind l.order ≤ l.bound

-- each literal is over the level's variables
abbrev pub LevelIsOverVars : Type 0
LevelIsOverVars =
    (l : Level) (clause : List ℤ) (lit : ℤ)
    → IsOrder l.groups l.order
    → In clause (level_counter l)
    → In lit clause
    → IsLiteral (level_vars l) lit

-- one set more
abbrev pub NamingGrows : Type 0
NamingGrows = (kind : Kind) (found : List Found) (f : Found) → names_of kind (found ++ f ∷ []) ≡ also (names_of kind found) f.kind f.set

-- the groups that sets of the problem name are an order
abbrev pub NamesAreOrder : Type 0
NamesAreOrder =
    (kind : Kind) (groups : ℕ) (found : List Found)
    → ((f : Found) → In f found → IsSubset f.set (all_groups groups))
    → IsOrder groups (names_of kind found).named

-- and so are those that are counted
abbrev pub LevelHasOrder : Type 0
LevelHasOrder =
    (kind : Kind) (groups most : ℕ) (found : List Found)
    → ((f : Found) → In f found → IsSubset f.set (all_groups groups))
    → IsOrder groups (level kind groups most found).order

-- each group that was named is counted or left out, and not both; those that are left out differ, each stood alone, and they
-- and the bound are as many as may count
pub record ArePartsOf (most : ℕ) (names : Naming) (l : Level) : Type 0 where
  pub each : (g : ℕ) → has names.named g ≡ (has (left_out most names) g || has l.order g)
  pub apart : (g : ℕ) → has (left_out most names) g ≡ true → has l.order g ≡ false
  pub distinct : AreDistinct (left_out most names)
  pub sure : (g : ℕ) → has (left_out most names) g ≡ true → has names.alone g ≡ true
  pub sum : length (left_out most names) + l.bound ≡ most

-- where each group was named once
abbrev pub LevelParts : Type 0
LevelParts = (groups most : ℕ) (names : Naming) → AreDistinct names.named → ArePartsOf most names (level_by groups most names)
