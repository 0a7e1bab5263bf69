use Rattle.std.proofs.Common.{sym, subst}
use Rattle.std.specs.Prelude.{IfSome}
use Rattle.gm_base.specs.Problem.{Problem}
use Rattle.model_flips.specs.Rotation.{IsListing}
use Rattle.known_sets.proofs.model_maker.ModelMaker.show_from.Goals as goal

-- the rotation is kept
pub returns : goal.returns
returns c = λ p right.
    let rotation = c.in_ok-rotation.rotation in
    record {
      problem = right.problem;
      flips = right.flips;
      rotation =
          subst (λ (q : Problem). IsListing q.clauses rotation) right.problem
          (c.in_ok-rotation.ensures.whole (subst (λ (q : Problem). IfSome c.args.self.now.rotation (IsListing q.clauses)) (sym right.problem) right.rotation));
    }
