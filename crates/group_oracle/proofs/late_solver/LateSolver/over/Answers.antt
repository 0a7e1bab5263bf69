use Rattle.std.proofs.Common.{refl}
use Rattle.group_oracle.proofs.SelectorLemmas.{inputs-given}
use Rattle.group_oracle.proofs.late_solver.LateSolver.over.Goals as goal

-- the log has the given clauses alone
pub invariant_of-result : goal.invariant_of-result
invariant_of-result c =
    record {
      small = c.requires.small;
      literals = c.requires.literals;
      waiting = c.in_ok-log.ensures;
      inputs = inputs-given c.args.given;
      vars = refl;
    }
