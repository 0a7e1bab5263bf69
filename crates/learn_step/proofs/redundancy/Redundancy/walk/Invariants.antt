use Rattle.std.proofs.Common.{All}
use Rattle.learn_step.specs.Redundancy.{IsStop}
use Rattle.learn_step.proofs.redundancy.Redundancy.walk.Given as goal

abbrev pub invariant-loop : goal.invariant-loop
invariant-loop l = All (IsStop l.trail.entries) l.self.path.items
