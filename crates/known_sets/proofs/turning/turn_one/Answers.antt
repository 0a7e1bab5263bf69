use Rattle.std.proofs.Common.{sym, subst}
use Rattle.model_flips.specs.Rotation.{Satisfies}
use Rattle.known_sets.specs.Entries.{IsSatisfied}
use Rattle.known_sets.proofs.MemoryLemmas.{All-at}
use Rattle.known_sets.proofs.turning.turn_one.Goals as goal

-- the assignment of this number is right
pub returns : goal.returns
returns c = λ listing all.
    let p = c.args.problem.now in
    let right = All-at (IsSatisfied p) c.args.satisfied.now c.args.number (record { set = c.in-Some.lent.set.now; evidence = c.in-Some.lent.evidence.now }) all c.in-Some.ensures in
    c.turn_by_each.ensures listing
    (subst (λ out. Satisfies p out c.in_ok-assign.assign) (sym c.in-Some-set_of.ensures) (subst (Satisfies p c.in-Some.lent.set.now) (sym c.in_ok-assign.ensures) right)) all
