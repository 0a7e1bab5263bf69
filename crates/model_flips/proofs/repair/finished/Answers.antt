use Rattle.std.proofs.Common.{List, Option, ℕ, [], subst}
use Rattle.std.specs.Prelude.{IfSome}
use Rattle.model_flips.specs.Rotation.{HasLost}
use Rattle.model_flips.proofs.RepairLemmas.{Satisfies-finished}
use Rattle.model_flips.proofs.repair.finished.Goals as goal

pub returns : goal.returns
returns c = λ whole.
    let p = c.args.problem.now in
    let w = c.args.repair.values in
    let falsified = c.args.repair.falsified.items in
    let told =
    subst (λ (left : List ℕ). IfSome c.in_ok-out.field-0 (λ out. HasLost p w left out falsified)) c.new-none.ensures
    (subst (λ (places : List ℕ). IfSome c.in_ok-out.field-0 (λ out. HasLost p w c.new-none.result out places)) c.deref.ensures.value c.in_ok-out.ensures) in
    let lost = subst (λ (o : Option (List ℕ)). IfSome o (λ out. HasLost p w [] out falsified)) c.in-Some.is told in
    Satisfies-finished p w c.in-Some.out falsified c.requires c.as_slice-groups.ensures.ascends lost whole
