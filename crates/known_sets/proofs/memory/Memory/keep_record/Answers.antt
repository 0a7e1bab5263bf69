use Rattle.std.proofs.Common.{◌≡◌, true, subst, sym}
use Rattle.gm_base.specs.Sets.{complement}
use Rattle.gm_base.specs.Evidence.{is_witness}
use Rattle.evidence_rec.specs.Records.{IsAccepted}
use Rattle.known_sets.specs.Entries.{IsSatisfied}
use Rattle.known_sets.proofs.MemoryLemmas.{All-inserted}
use Rattle.known_sets.proofs.memory.Memory.keep_record.Goals as goal

pub returns-in-Ok-copy : goal.returns-in-Ok-copy
returns-in-Ok-copy c = λ p earlier right h.
    let accepted = subst (IsAccepted p earlier) c.in-Correction.is h in
    let out = c.in-Correction.set in
    let witness = c.in-Ok-copy.witness in
    record {
      refuted = right.refuted;
      satisfied =
          All-inserted (IsSatisfied p) c.insert-in-Ok-copy.result c.args.self.now.satisfied c.insert-in-Ok-copy.new.self (record { set = out; evidence = witness })
          c.insert-in-Ok-copy.ensures.ok c.insert-in-Ok-copy.ensures.err right.satisfied
          (subst (λ w. is_witness p (complement p.groups out) w ≡ true) (sym c.in-Ok-copy.ensures) accepted.accepts.witnessed);
      models = right.models;
    }
