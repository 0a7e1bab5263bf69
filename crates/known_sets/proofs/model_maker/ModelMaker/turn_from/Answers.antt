use Rattle.std.proofs.Common.{sym, subst}
use Rattle.std.specs.Prelude.{All, IfSome}
use Rattle.gm_base.specs.Problem.{Problem}
use Rattle.model_flips.specs.Rotation.{IsListing}
use Rattle.known_sets.specs.Entries.{IsSatisfied}
use Rattle.known_sets.proofs.model_maker.ModelMaker.turn_from.Goals as goal

-- the rotation is kept
pub returns-clause-right : goal.returns-clause-right
returns-clause-right c = λ p right.
    let rotation = c.in_ok-rotation.rotation in
    record {
      problem = right.problem;
      flips = right.flips;
      rotation =
          subst (λ (q : Problem). IsListing q.clauses rotation) right.problem
          (c.in_ok-rotation.ensures.whole (subst (λ (q : Problem). IfSome c.args.self.now.rotation (IsListing q.clauses)) (sym right.problem) right.rotation));
    }

-- what is turned is right, and so is what is remembered of it
pub returns-clause-satisfied : goal.returns-clause-satisfied
returns-clause-satisfied c = λ p right all.
    let rotation = c.in_ok-rotation.rotation in
    let same = right.problem in
    let listing = c.in_ok-rotation.ensures.whole (subst (λ (q : Problem). IfSome c.args.self.now.rotation (IsListing q.clauses)) (sym same) right.rotation) in
    subst (λ (q : Problem). All (IsSatisfied q) c.turn_all-turned.new.satisfied) same
    (c.turn_all-turned.ensures listing (subst (λ (q : Problem). All (IsSatisfied q) c.args.satisfied.now) (sym same) all))
