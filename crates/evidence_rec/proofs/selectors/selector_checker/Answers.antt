use Rattle.std.proofs.Common.{◌+◌, ◌∙◌, ◌++◌, ◌∷◌, [], List, ℤ, ℕ, ap, ap₂, sym, arith}
use Rattle.gm_base.specs.Evidence.{with_selector}
use Rattle.evidence_rec.proofs.BasisLemmas.{count-selectors, selectors-next, begins-new}
use Rattle.evidence_rec.proofs.selectors.selector_checker.Goals as goal

pub add_clause-requires-clause-no_steps : goal.add_clause-requires-clause-no_steps
add_clause-requires-clause-no_steps c =
    count-selectors c.args.problem.now c.loop-at.at c.loop-at.checker.known (omega (arith, c.len-at-end.ensures, c.loop-at-test.true)) c.loop-at.invariant.known
    ∙ sym c.loop-at.invariant.inputs

pub loop-at-preserved : goal.loop-at-preserved
loop-at-preserved c = record {
  vars = c.in_ok-add_clause.ensures.vars ∙ c.loop-at.invariant.vars;
  inputs = c.in_ok-add_clause.ensures.inputs ∙ ap (λ (n : ℕ). n + 1) c.loop-at.invariant.inputs;
  known = c.in_ok-add_clause.ensures.added
      ∙ ap₂ (λ (ks : List (ℕ × List ℤ)) (n : ℕ). ks ++ (n + 1, with_selector c.args.problem.now c.clause.result.now) ∷ []) c.loop-at.invariant.known c.loop-at.invariant.inputs
      ∙ sym (selectors-next c.args.problem.now c.loop-at.at c.clause.result.now c.clause.ensures.same);
}

-- all clauses were given
pub returns : goal.returns
returns c =
    begins-new c.args.problem.now c.loop-at.checker c.loop-at.at (omega (arith, c.len-at-end.ensures)) c.loop-at.invariant.vars c.loop-at.invariant.inputs c.loop-at.invariant.known
