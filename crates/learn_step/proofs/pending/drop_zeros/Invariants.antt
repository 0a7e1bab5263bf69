use Rattle.std.proofs.Common.{◌≤◌, length}
use Rattle.learn_step.specs.Pending.{AreSame}
use Rattle.learn_step.proofs.pending.drop_zeros.Given as goal

-- only zeros were dropped
abbrev pub invariant-loop-words : goal.invariant-loop-words
invariant-loop-words l = AreSame l.initial.words.items l.words.items × (length l.words.items ≤ length l.initial.words.items)

abbrev pub decreases-loop-words : goal.decreases-loop-words
decreases-loop-words l = length l.words.items
