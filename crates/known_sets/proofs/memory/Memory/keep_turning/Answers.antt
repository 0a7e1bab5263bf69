use Rattle.known_sets.specs.Entries.{IsSatisfied}
use Rattle.known_sets.proofs.MemoryLemmas.{All-inserted}
use Rattle.known_sets.proofs.memory.Memory.keep_turning.Goals as goal

-- what is remembered is right with one assignment more
pub returns : goal.returns
returns c = λ p right shown.
    record {
      refuted = right.refuted;
      satisfied =
          c.turn_from.ensures.satisfied p right.models
          (All-inserted (IsSatisfied p) c.insert.result c.args.self.now.satisfied c.insert.new.self (record { set = c.args.out.now; evidence = c.args.assign }) c.insert.ensures.ok c.insert.ensures.err
          right.satisfied shown);
      models = c.turn_from.ensures.right p right.models;
    }
