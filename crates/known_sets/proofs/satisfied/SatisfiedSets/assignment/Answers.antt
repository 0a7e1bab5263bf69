use Rattle.std.proofs.Common.{◌≡◌, ◌∙◌, true, List, Bool, subst, sym}
use Rattle.gm_base.specs.Evidence.{is_witness}
use Rattle.known_sets.specs.declared.entry.Entry.{Entry}
use Rattle.known_sets.specs.Entries.{IsSatisfied}
use Rattle.known_sets.proofs.MemoryLemmas.{All-at, is_witness-missing}
use Rattle.known_sets.proofs.satisfied.SatisfiedSets.assignment.Goals as goal

-- the set has none of the groups that the assignment may leave out
pub returns : goal.returns
returns c = λ p all within.
    let lent = c.in_ok-lent.lent in
    let known : Entry (List Bool) = record { set = lent.set.now; evidence = lent.evidence.now } in
    let right = All-at (IsSatisfied p) c.args.self.now c.args.number known all c.in_ok-lent.ensures in
    subst (λ w. is_witness p c.args.set.now w ≡ true) (sym c.in-Ok.ensures)
    (is_witness-missing p c.args.set.now known.set known.evidence within (sym c.misses.ensures ∙ c.if-not-misses.false) right)
