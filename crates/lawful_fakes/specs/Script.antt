-- What a map with a script keeps.
use Rattle.std.specs.Prelude.{ℕ, ◌<◌, ◌^◌, List, map}
use Rattle.sat_base.specs.Members.{In}
use Rattle.gm_base.specs.declared.clause.Clause.{Clause}
use Rattle.gm_base.specs.Sets.{IsSubset, all_groups}
use Rattle.gm_base.specs.Explored.{Found, block_of, block_clause}
use Rattle.lrat_steps.specs.Log.{LogStep}
use Rattle.evidence_rec.specs.Seeding.{IsHonestMap}
use Rattle.lawful_fakes.specs.declared.block.Block.{Block}

abbrev pub found_in : Block → Found
found_in b = block_of b.side b.set

-- the block clause of what was found, as one of the background
abbrev pub clause_in : Block → Clause
clause_in b = record { group = 0; lits = block_clause (found_in b) }

-- blocks of sets of the groups, and the log of their clauses
pub record KeepsScript (groups : ℕ) (blocks : List Block) (log : List LogStep) : Type 0 where
  pub small : groups < 2 ^ 31
  pub within : (f : Found) → In f (map found_in blocks) → IsSubset f.set (all_groups groups)
  pub honest : IsHonestMap (map found_in blocks) log
