use Rattle.std.proofs.Common.{◌≡◌, length}
use Rattle.model_flips.proofs.standing.Standing.assignment.Given as goal

-- as many values as there are variables
abbrev pub invariant-loop-at : goal.invariant-loop-at
invariant-loop-at l = length l.builder ≡ l.vars
