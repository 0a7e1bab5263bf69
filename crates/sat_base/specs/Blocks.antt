-- Steps in blocks: of each step it is said in which block it stands, and where there.
use Rattle.std.specs.Prelude.{◌≡◌, ◌<◌, List, [], map, length, All, slice_index_or}
use Rattle.std.specs.Arc.{arc_value}
use Rattle.sat_base.specs.Derivation.{Step}
use Rattle.sat_base.specs.declared.step_arena.Place.{Place}
use Rattle.sat_base.specs.declared.step_arena.StepArena.TheInside.{Inside}

-- what stands where nothing does
abbrev pub no_step : Step
no_step = record { id = 0; lits = []; hints = [] }

abbrev pub blocks_of : Inside → List (List Step)
blocks_of arena = map (λ block. arc_value block) arena.blocks.items

-- the step at a place
abbrev pub step_in : List (List Step) → Place → Step
step_in blocks p = slice_index_or (slice_index_or blocks p.block []) p.at no_step

-- there is such a place
pub record IsPlace (blocks : List (List Step)) (p : Place) : Type 0 where
  pub block : p.block < length blocks
  pub at : p.at < length (slice_index_or blocks p.block [])

abbrev pub steps_in : Inside → List Step
steps_in arena = map (step_in (blocks_of arena)) arena.places.items

abbrev pub ArePlaced : Inside → Type 0
ArePlaced arena = All (IsPlace (blocks_of arena)) arena.places.items

-- each place is still there, and holds what it held
abbrev pub Keeps : List (List Step) → List (List Step) → Type 0
Keeps old new = (p : Place) → IsPlace old p → IsPlace new p × (step_in new p ≡ step_in old p)

-- the step was added at this place
pub record IsPlaced (old new : List (List Step)) (p : Place) (s : Step) : Type 0 where
  pub keeps : Keeps old new
  pub is_place : IsPlace new p
  pub step : step_in new p ≡ s
