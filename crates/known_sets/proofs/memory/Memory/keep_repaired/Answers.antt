use Rattle.std.proofs.Common.{sym, subst}
use Rattle.std.specs.Prelude.{All}
use Rattle.model_flips.specs.Rotation.{Satisfies}
use Rattle.known_sets.specs.Entries.{IsSatisfied}
use Rattle.known_sets.proofs.MemoryLemmas.{All-inserted}
use Rattle.known_sets.proofs.memory.Memory.keep_repaired.Goals as goal

-- what is remembered is right with one assignment more
pub returns : goal.returns
returns c = λ p right shown.
    record {
      refuted = right.refuted;
      satisfied =
          All-inserted (IsSatisfied p) c.insert.result c.answered.new.self c.insert.new.self (record { set = c.args.out.now; evidence = c.in_ok-assign.assign }) c.insert.ensures.ok c.insert.ensures.err
          (subst (All (IsSatisfied p)) (sym c.answered.ensures) right.satisfied) (subst (Satisfies p c.args.out.now) (sym c.in_ok-assign.ensures) shown);
      models = c.count_repair.ensures p right.models;
    }
