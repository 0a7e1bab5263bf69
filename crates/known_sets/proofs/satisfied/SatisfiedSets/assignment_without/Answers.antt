use Rattle.std.proofs.Common.{◌≡◌, ◌∙◌, true, List, Bool, subst, sym}
use Rattle.gm_base.specs.Sets.{without}
use Rattle.gm_base.specs.Evidence.{is_witness}
use Rattle.known_sets.specs.declared.entry.Entry.{Entry}
use Rattle.known_sets.specs.Entries.{IsSatisfied}
use Rattle.known_sets.proofs.MemoryLemmas.{All-at, is_witness-missing, IsSubset-without_one}
use Rattle.known_sets.proofs.satisfied.SatisfiedSets.assignment_without.Goals as goal

-- without the one group, the set has none of those that the assignment may leave out
pub returns : goal.returns
returns c = λ p all within.
    let lent = c.in_ok-lent.lent in
    let known : Entry (List Bool) = record { set = lent.set.now; evidence = lent.evidence.now } in
    let right = All-at (IsSatisfied p) c.args.self.now c.args.number known all c.in_ok-lent.ensures in
    let rest = without c.args.set.now c.args.group in
    subst (λ w. is_witness p rest w ≡ true) (sym c.in-Ok.ensures)
    (is_witness-missing p rest known.set known.evidence (IsSubset-without_one p.groups c.args.set.now c.args.group within) (sym c.misses_but.ensures ∙ c.if-not-misses_but.false) right)
