use Rattle.std.proofs.Common.{◌≡◌, ◌++◌, ◌-◌, replicate, true, false}
use Rattle.trail_book.specs.Trail.{untouched_trail}
use Rattle.trail_book.proofs.trail.Trail.new.Given as goal

-- the variables so far are touched, and the others are not
abbrev pub invariant-loop-index : goal.invariant-loop-index
invariant-loop-index l = l.trail ≡ record (untouched_trail l.vars) { touched = replicate l.index true ++ replicate (l.vars - l.index) false }
