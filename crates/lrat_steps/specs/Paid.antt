-- What a search does to its log and to the purse.
use Rattle.std.specs.Prelude.{◌≡◌, ℕ, ◌+◌, List, ◌++◌}
use Rattle.lrat_steps.specs.Log.{LogStep, inputs_of, learned_count}

-- the log has grown by derived steps alone, and of so many units before, these are left: one was paid for each clause that
-- was learnt
pub record IsPaid (old new : List LogStep) (before left : ℕ) : Type 0 where
  pub more : List LogStep
  pub grown : new ≡ old ++ more
  pub inputs : inputs_of new ≡ inputs_of old
  pub paid : left + learned_count new ≡ before + learned_count old
