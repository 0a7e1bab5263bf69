use Rattle.std.proofs.Common.{◌≡◌, ℕ, length}
use Rattle.cdcl_core.specs.Answers.{IsHonestlyPaid}
use Rattle.cdcl_core.specs.Search.{IsAtRoot, KeepsValues}
use Rattle.cdcl_core.proofs.search.Search.log_units.Given as goal

abbrev pub invariant-loop-place : goal.invariant-loop-place
invariant-loop-place l = record {
  at_root : IsAtRoot l.self;
  keeps : KeepsValues l.fn.self l.self;
  paid : (left : ℕ) → IsHonestlyPaid l.fn.self.log l.self.log left left;
  vars : l.self.trail.vars ≡ l.fn.self.trail.vars;
  touched : l.self.trail.touched ≡ l.fn.self.trail.touched;
  true_first : l.self.true_first ≡ l.fn.self.true_first;
  len : l.len ≡ length l.self.trail.entries;
}
