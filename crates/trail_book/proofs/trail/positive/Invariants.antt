use Rattle.std.proofs.Common.{◌≡◌, ◌++◌, ◌-◌, ◌+◌}
use Rattle.trail_book.specs.Trail.{positive_from}
use Rattle.trail_book.proofs.trail.positive.Given as goal

-- those so far, and those still to come
abbrev pub invariant-loop-var : goal.invariant-loop-var
invariant-loop-var l = l.lits.items ++ positive_from (l.var + 1) (l.vars - l.var) ≡ positive_from 1 l.vars
