-- Opening a core.
use Rattle.std.specs.Prelude.{ℕ, Bool, List, Some, ◌≡◌, slice_get}
use Rattle.gm_base.specs.Sets.{IsSubset, all_groups}
use Rattle.gm_base.specs.Problem.{Problem}
use Rattle.evidence_rec.specs.declared.record.Record.{Record}
use Rattle.evidence_rec.specs.Records.{set_of}
use Rattle.map_core.specs.declared.entry.Opening.{Opening}
use Rattle.map_core.specs.declared.entry.Goal.{Goal}

-- the records' sets have groups of the problem alone
pub record IsWithin (groups : ℕ) (records : List Record) : Type 0 where
  pub at : (i : ℕ) (r : Record) → slice_get records i ≡ Some r → IsSubset (set_of r) (all_groups groups)

abbrev pub opening_of : Problem → List Record → ℕ → ℕ → ℕ → Goal → Bool → Opening
opening_of problem records workers budget limit goal tops =
    record { problem = problem; records = records; workers = workers; budget = budget; limit = limit; goal = goal; tops = tops }
