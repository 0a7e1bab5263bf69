use Rattle.std.proofs.Common.{◌≡◌, ◌+◌, ◌≤◌, length, vec_capacity}
use Rattle.learn_step.specs.Pending.{AreSame}
use Rattle.learn_step.proofs.pending.reach.Given as goal

-- only zeros came, and there is room for the rest
abbrev pub invariant-loop : goal.invariant-loop
invariant-loop l =
    AreSame l.fn.words.items l.words.items
    × (length l.words.items ≡ length l.initial.words.items + l.counter)
    × (length l.initial.words.items + l.more ≤ vec_capacity l.words)
