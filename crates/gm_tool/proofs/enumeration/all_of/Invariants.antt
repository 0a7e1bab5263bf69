use Rattle.std.proofs.Common.{◌≡◌, ◌++◌, map}
use Rattle.std.specs.Prelude.{Ok}
use Rattle.gm_tool.proofs.enumeration.all_of.Given as goal

-- what was in those so far, and those that are left
abbrev pub invariant-loop-one : goal.invariant-loop-one
invariant-loop-one g l = map Ok l.all.items ++ l.one-iterator.rest.items ≡ l.fn.made.items
