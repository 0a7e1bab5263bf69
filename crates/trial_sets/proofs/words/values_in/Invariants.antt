use Rattle.std.proofs.Common.{◌≡◌, length}
use Rattle.trial_sets.proofs.words.values_in.Given as goal

-- there are as many values as variables
abbrev pub invariant-loop-at : goal.invariant-loop-at
invariant-loop-at l = length l.builder ≡ l.vars
