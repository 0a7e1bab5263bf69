use Rattle.std.proofs.Common.{arith, subst, refl, All}
use Rattle.std.proofs.lemmas.List.{take_all}
use Rattle.std.proofs.lemmas.List.Elements.{All-more, recursion_from_All}
use Rattle.sat_base.specs.Literals.{IsLiteral}
use Rattle.lrat_check.proofs.follow.are_over.Goals as goal

pub loop-lit-preserved : goal.loop-lit-preserved
loop-lit-preserved c =
    let here : IsLiteral c.args.vars c.lit-item.result =
    record { not_zero = omega (arith, c.var.ensures.same, c.var.ensures.not_zero); in_range = omega (arith, c.var.ensures.same) } in
    All-more (IsLiteral c.args.vars) c.args.lits.now c.loop-lit.lit-index c.lit-item.result (omega arith) c.loop-lit.invariant
    (subst (IsLiteral c.args.vars) c.lit-item.is here)

pub returns : goal.returns
returns c = (
  λ _. recursion_from_All (IsLiteral c.args.vars) c.args.lits.now
      (subst (All (IsLiteral c.args.vars)) (take_all c.loop-lit.lit-index c.args.lits.now (omega arith)) c.loop-lit.invariant),
  λ _. refl,
)
