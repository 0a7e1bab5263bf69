use Rattle.group_oracle.proofs.GroupLemmas.{group_of, off_high, mapped_more, mapped_all}
use Rattle.std.proofs.Common.{◌≤◌, ◌-◌, ◌∙◌, ap, arith}
use Rattle.sat_base.specs.Literals.{var_of}
use Rattle.group_oracle.proofs.cores.group_numbers.Goals as goal

-- a selector is behind the variables
pub overflow_sub-var : goal.overflow_sub-var
overflow_sub-var c =
    let lit = c.lit-item.result in
    let high : c.args.vars ≤ var_of lit = off_high c.args.vars c.loop-lit.lit-index c.args.lits.now lit lit c.requires c.loop-lit-test.true c.lit-item.is in
    omega (arith, c.var.ensures.same)

pub loop-lit-preserved : goal.loop-lit-preserved
loop-lit-preserved c =
    mapped_more (group_of c.args.vars) c.args.lits.now c.loop-lit.lit-index c.lit-item.result c.loop-lit.groups.items c.push.new.self.items (c.var.result - c.args.vars) c.loop-lit-test.true
    c.loop-lit.invariant c.in_ok-push.ensures.items (ap (λ v. v - c.args.vars) c.var.ensures.same ∙ ap (group_of c.args.vars) c.lit-item.is)

pub returns : goal.returns
returns c =
    let low = c.loop-lit-test.false in
    let high = c.loop-lit.auto.lit-index-end in
    mapped_all (group_of c.args.vars) c.args.lits.now c.loop-lit.lit-index c.loop-lit.groups.items c.loop-lit.invariant (omega arith)
