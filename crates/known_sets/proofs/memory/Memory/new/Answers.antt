use Rattle.std.proofs.Common.{subst, sym, arith}
use Rattle.std.specs.Prelude.{All}
use Rattle.known_sets.specs.Entries.{IsSatisfied}
use Rattle.known_sets.proofs.memory.Memory.new.Goals as goal

-- nothing is remembered
pub returns : goal.returns
returns c =
    record {
      refuted = c.new.ensures c.args.problem.now;
      satisfied = subst (All (IsSatisfied c.args.problem.now)) (sym c.new-2.ensures) (λ k d none. absurd (omega arith));
      models = c.in_ok-new.ensures;
    }
