use Rattle.std.proofs.Common.{sym, subst}
use Rattle.std.specs.Prelude.{All, IfOk, IfSome}
use Rattle.gm_base.specs.Problem.{Problem}
use Rattle.model_flips.specs.Rotation.{IsListing, Satisfies}
use Rattle.known_sets.specs.Entries.{IsSatisfied}
use Rattle.known_sets.proofs.model_maker.ModelMaker.repaired.Goals as goal

-- what is repaired is right, and so is what comes of it
pub returns-clause-found : goal.returns-clause-found
returns-clause-found c = λ p right all.
    let rotation = c.in_ok-rotation.rotation in
    let same = right.problem in
    let listing =
    subst (λ (q : Problem). IsListing q.clauses rotation) same
    (c.in_ok-rotation.ensures.whole (subst (λ (q : Problem). IfSome c.args.self.now.rotation (IsListing q.clauses)) (sym same) right.rotation)) in
    subst (λ (q : Problem). IfOk c.repair_one-found.result (λ found. IfSome found (λ turned. Satisfies q turned.out turned.assign))) same
    (c.repair_one-found.ensures (subst (λ (q : Problem). IsListing q.clauses rotation) (sym same) listing) (subst (λ (q : Problem). All (IsSatisfied q) c.args.satisfied.now) (sym same) all))
