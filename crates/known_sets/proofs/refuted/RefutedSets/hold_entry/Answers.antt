use Rattle.std.proofs.Common.{◌≡◌, ◌∙◌, Option, true, sym, subst}
use Rattle.std.specs.Prelude.{IfSome}
use Rattle.sat_base.specs.Derivation.{Derivation}
use Rattle.gm_base.specs.Evidence.{refutes}
use Rattle.known_sets.specs.declared.entry.Entry.{Entry}
use Rattle.known_sets.specs.Entries.{IsRefuted}
use Rattle.known_sets.proofs.MemoryLemmas.{All-inserted}
use Rattle.known_sets.proofs.refuted.RefutedSets.hold_entry.Goals as goal

-- the one that was held before is not needed
pub returns-else-not-smaller : goal.returns-else-not-smaller
returns-else-not-smaller c = λ p all one.
    record { sets = all.sets; held = subst (λ (o : Option (Entry Derivation)). IfSome o (IsRefuted p)) (sym c.replace-before.ensures.after) one }

-- none was held before
pub returns-in_default : goal.returns-in_default
returns-in_default c = λ p all one.
    record { sets = all.sets; held = subst (λ (o : Option (Entry Derivation)). IfSome o (IsRefuted p)) (sym c.replace-before.ensures.after) one }

-- the one that was held before is among the others
pub returns-in-Some : goal.returns-in-Some
returns-in-Some c = λ p all one.
    let before = c.in-Some.before in
    let refuted : IsRefuted p before =
    subst (λ (o : Option (Entry Derivation)). IfSome o (IsRefuted p)) (sym c.replace-before.ensures.value ∙ c.in-Some.is) all.held in
    record {
      sets =
          All-inserted (IsRefuted p) c.insert.result c.args.self.now.sets c.insert.new.self (record { set = c.as_slice.result.now; evidence = before.evidence })
          c.insert.ensures.ok c.insert.ensures.err all.sets
          (subst (λ s. refutes p s before.evidence ≡ true) (sym c.as_slice.ensures.groups) refuted);
      held = subst (λ (o : Option (Entry Derivation)). IfSome o (IsRefuted p)) (sym c.replace-before.ensures.after) one;
    }
