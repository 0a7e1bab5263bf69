use Rattle.std.proofs.Common.{Option, Result, Some, None, Ok, Err, List, Bool, sym, subst}
use Rattle.std.specs.Prelude.{IfOk, IfSome}
use Rattle.model_flips.specs.declared.rotation.Turned.{Turned}
use Rattle.model_flips.specs.Rotation.{Satisfies}
use Rattle.known_sets.specs.declared.entry.Entry.{Entry}
use Rattle.known_sets.specs.Entries.{IsSatisfied}
use Rattle.known_sets.proofs.MemoryLemmas.{All-at}
use Rattle.known_sets.proofs.model_maker.repair_one.Goals as goal

-- the assignment of the number is right
pub returns : goal.returns
returns c = λ listing all.
    let p = c.args.problem.now in
    let known : Entry (List Bool) = record { set = c.in-Some.lent.set.now; evidence = c.in-Some.lent.evidence.now } in
    let right = All-at (IsSatisfied p) c.args.satisfied.now c.args.number known all c.in-Some.ensures in
    let before =
    subst (λ out. Satisfies p out c.in_ok-assign.assign) (sym c.in-Some-set_of.ensures)
    (subst (Satisfies p c.in-Some.lent.set.now) (sym c.in_ok-assign.ensures) right) in
    from_turned (λ turned. Satisfies p turned.out turned.assign) c.repaired.result c.repaired.ensures listing before
  where
    from_turned : {A B E : Type 0} (P : Turned → Type 0) (r : Result (Option Turned) E) → IfOk r (λ f. IfSome f (λ t. A → B → P t)) → A → B → IfOk r (λ f. IfSome f P)
    from_turned P (Ok (Some t)) h a b = h a b
    from_turned P (Ok None) h a b = tt
    from_turned P (Err e) h a b = tt
