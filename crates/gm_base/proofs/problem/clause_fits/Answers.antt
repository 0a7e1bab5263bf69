use Rattle.std.proofs.Common.{◌≤◌, arith, subst, ◌∙◌, refl, sym}
use Rattle.std.specs.Prelude.{All}
use Rattle.std.proofs.lemmas.List.{take_all}
use Rattle.std.proofs.lemmas.List.Elements.{All-more, All-from_recursion, recursion_from_All, All-get_or}
use Rattle.sat_base.specs.Literals.{IsLiteral, var_of}
use Rattle.gm_base.proofs.problem.clause_fits.Goals as goal

pub loop-lit-preserved : goal.loop-lit-preserved
loop-lit-preserved c =
    let here : IsLiteral c.args.vars c.lit-item.result =
    record { not_zero = omega (arith, c.var.ensures.same, c.var.ensures.not_zero); in_range = omega (arith, c.var.ensures.same) } in
    All-more (IsLiteral c.args.vars) c.as_slice-lit-items.result.now c.loop-lit.lit-index c.lit-item.result (omega arith) c.loop-lit.invariant
    (subst (IsLiteral c.args.vars) c.lit-item.is here)

pub returns : goal.returns
returns c =
    let whole = take_all c.loop-lit.lit-index c.as_slice-lit-items.result.now (omega arith) ∙ c.as_slice-lit-items.ensures in (
      λ _. record {
        group = c.if-clause-groups.false;
        lits = recursion_from_All (IsLiteral c.args.vars) c.args.clause.now.lits (subst (All (IsLiteral c.args.vars)) whole c.loop-lit.invariant);
      },
      λ _. refl,
    )

-- a literal of a variable that is too great
pub returns-then-var-vars : goal.returns-then-var-vars
returns-then-var-vars c = (
  λ t. absurd (cc t),
  λ fits.
      let all = All-from_recursion (IsLiteral c.args.vars) c.args.clause.now.lits fits.lits in
      let one = All-get_or (IsLiteral c.args.vars) c.as_slice-lit-items.result.now c.loop-lit.lit-index c.lit-item.result (omega arith) (subst (All (IsLiteral c.args.vars)) (sym c.as_slice-lit-items.ensures) all) in
      let in_range = one.in_range in
      let same = c.lit-item.is in
      absurd (let at_most : var_of c.lit-item.result ≤ c.args.vars = subst (λ l. var_of l ≤ c.args.vars) (sym same) in_range in omega (arith, c.var.ensures.same)),
)
