use Rattle.std.proofs.Common.{◌≡◌, ◌+◌, ◌-◌, ◌*◌, length}
use Rattle.cdcl_core.specs.Answers.{IsHonestlyPaid}
use Rattle.cdcl_core.specs.Search.{IsSearch}
use Rattle.cdcl_core.proofs.search.Search.search.Given as goal

abbrev pub invariant-loop-answer : goal.invariant-loop-answer
invariant-loop-answer l = record {
  search : IsSearch l.self l.assumed;
  paid : IsHonestlyPaid l.fn.self.log l.self.log l.fn.purse.left l.purse.left;
  vars : l.self.trail.vars ≡ l.fn.self.trail.vars;
  touched : l.self.trail.touched ≡ l.fn.self.trail.touched;
  true_first : l.self.true_first ≡ l.fn.self.true_first;
}

-- a round pays a unit, or the trail grows
abbrev pub decreases-loop-answer : goal.decreases-loop-answer
decreases-loop-answer l = l.purse.left * (l.self.trail.vars + 1) + (l.self.trail.vars - length l.self.trail.entries)
