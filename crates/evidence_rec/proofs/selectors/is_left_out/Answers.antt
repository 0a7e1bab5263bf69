use Rattle.std.proofs.Common.{◌<◌, ◌≤◌, ◌-◌, ◌∙◌, ℕ, ap₂, sym, arith}
use Rattle.sat_base.specs.Literals.{var_of}
use Rattle.gm_base.specs.Sets.{has}
use Rattle.evidence_rec.specs.Basis.{refuted_set}
use Rattle.evidence_rec.proofs.LeftOutLemmas.{leaves_out-positive, leaves_out-below, leaves_out-has}
use Rattle.evidence_rec.proofs.selectors.is_left_out.Goals as goal
use Rattle.evidence_rec.proofs.selectors.is_left_out.Goals.{then-is_positive-via-then-is_positive, then-is_positive-via-else-is_positive+then-var-vars}

-- a positive literal, or one over a variable of the problem
pub returns-then-is_positive : goal.returns-then-is_positive
returns-then-is_positive c =
    let p = c.args.problem.now in
    let set = refuted_set p.groups c.args.set.now c.args.own in
    elim c.then-is_positive.branch [
      | then-is_positive-via-then-is_positive w ↦
          sym (leaves_out-positive p set c.args.lit (omega (arith, c.var-var.ensures.same, c.var-var.ensures.not_zero)) (c.is_positive.ensures.0 w.if-is_positive.true))
      | then-is_positive-via-else-is_positive+then-var-vars w ↦
          sym (leaves_out-below p set c.args.lit (omega (arith, c.var-var.ensures.same, w.vars.ensures, w.if-var-vars.true)))
    ]

-- its variable is a selector, or the last one of the problem, which stands for no group
pub returns : goal.returns
returns c =
    let p = c.args.problem.now in
    let set = refuted_set p.groups c.args.set.now c.args.own in
    let high : p.vars ≤ var_of c.args.lit = omega (arith, c.vars.ensures, c.var-var.ensures.same, c.if-var-vars.false) in
    let some : 0 < var_of c.args.lit = omega (arith, c.var-var.ensures.same, c.var-var.ensures.not_zero) in
    c.is_refuted.ensures
    ∙ ap₂ (λ (gs n : ℕ). has (refuted_set gs c.args.set.now c.args.own) n) c.groups.ensures.count (ap₂ (λ (a b : ℕ). a - b) c.var-var.ensures.same c.vars-2.ensures)
    ∙ sym (leaves_out-has p set c.args.lit some (λ is. let made = c.is_positive.ensures.1 is in let none = c.if-is_positive.false in cc) high)
