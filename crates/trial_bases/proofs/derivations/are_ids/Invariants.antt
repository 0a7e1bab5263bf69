use Rattle.std.proofs.Common.{◌≤◌, take}
use Rattle.std.specs.Prelude.{All}
use Rattle.sat_base.specs.Derivation.{max_id}
use Rattle.trial_bases.proofs.derivations.are_ids.Given as goal

-- the numbers so far can be ids
abbrev pub invariant-loop-number : goal.invariant-loop-number
invariant-loop-number l = All (λ n. n ≤ max_id) (take l.number-index l.numbers)
