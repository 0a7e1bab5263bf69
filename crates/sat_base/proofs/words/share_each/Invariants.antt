use Rattle.std.proofs.Common.{◌≡◌}
use Rattle.sat_base.proofs.words.share_each.Given as goal

abbrev pub invariant-loop-at : goal.invariant-loop-at
invariant-loop-at l = l.blocks.items ≡ l.fn.blocks.items
