use Rattle.std.proofs.Common.{Option, Result, Some, None, Ok, Err}
use Rattle.std.specs.Prelude.{IfOk, IfSome}
use Rattle.model_flips.specs.declared.rotation.Turned.{Turned}
use Rattle.model_flips.specs.Rotation.{Satisfies}
use Rattle.model_flips.proofs.rotation.Rotation.repaired.Goals as goal

-- nothing that matters is false, so what is listed says what is left out
pub returns-in_default : goal.returns-in_default
returns-in_default c =
    from_whole (λ turned. Satisfies c.args.problem.now turned.out turned.assign) c.finished.result c.loop.invariant.1 c.finished.ensures
  where
    from_whole : {A B C E : Type 0} (P : Turned → Type 0) (r : Result (Option Turned) E) → (A → B → C) → IfOk r (λ f. IfSome f (λ t. C → P t)) → IfOk r (λ f. IfSome f (λ t. A → B → P t))
    from_whole P (Ok (Some t)) whole h = λ a b. h (whole a b)
    from_whole P (Ok None) whole h = tt
    from_whole P (Err e) whole h = tt

-- the flip of one variable more
pub loop-preserved : goal.loop-preserved
loop-preserved c = (c.in_ok-repair-2.ensures.values, λ listing before. c.in_ok-repair-2.ensures.whole listing (c.loop.invariant.1 listing before))
