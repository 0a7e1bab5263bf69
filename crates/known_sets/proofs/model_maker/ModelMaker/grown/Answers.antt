use Rattle.std.proofs.Common.{◌≡◌, ◌∙◌, sym, subst}
use Rattle.std.specs.Prelude.{IfOk, IfSome}
use Rattle.gm_base.specs.Problem.{Problem}
use Rattle.model_flips.specs.Rotation.{Satisfies}
use Rattle.known_sets.proofs.model_maker.ModelMaker.grown.Goals as goal

-- the flips are kept
pub returns-clause-right : goal.returns-clause-right
returns-clause-right c = λ p right.
    let same : c.in_ok-flips.flips ≡ p =
    c.in_ok-flips.ensures.same (subst (λ (q : Problem). IfSome c.args.self.now.flips (λ before. before ≡ q)) (sym right.problem) right.flips) ∙ right.problem in
    record { problem = right.problem; flips = c.grown_by-grown.ensures.flips ∙ same; rotation = right.rotation }

-- they are of this problem
pub returns-clause-grown : goal.returns-clause-grown
returns-clause-grown c = λ p right.
    let same : c.in_ok-flips.flips ≡ p =
    c.in_ok-flips.ensures.same (subst (λ (q : Problem). IfSome c.args.self.now.flips (λ before. before ≡ q)) (sym right.problem) right.flips) ∙ right.problem in
    subst (λ (q : Problem). IfOk c.grown_by-grown.result (λ found. IfSome found (λ turned. Satisfies q turned.out turned.assign))) same c.grown_by-grown.ensures.grown
