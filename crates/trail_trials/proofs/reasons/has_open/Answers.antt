use Rattle.std.proofs.Common.{◌-◌, sym, subst, arith}
use Rattle.std.specs.Prelude.{ℤ}
use Rattle.sat_base.specs.Members.{In}
use Rattle.sat_base.proofs.DatabaseLemmas.{get_in}
use Rattle.trail_book.specs.Trail.{trues, top}
use Rattle.learn_step.specs.Reasons.{before_last}
use Rattle.trail_trials.proofs.reasons.has_open.Goals as goal

-- each literal is false
pub level_of-requires : goal.level_of-requires
level_of-requires c =
    let here : In c.lit-item.result c.args.clause.now = subst (λ (k : ℤ). In k c.args.clause.now) (sym c.lit-item.is) (get_in c.args.clause.now c.loop-lit.lit-index c.lit-item.result (omega arith)) in
    subst (λ (k : ℤ). In k (trues c.args.trail.now.entries)) (sym c.negated.ensures) (c.requires.all_false c.lit-item.result here)

-- one became false at the top level, and so was not false below it
pub returns-then-level_of-top : goal.returns-then-level_of-top
returns-then-level_of-top c = λ h.
    let es = c.args.trail.now.entries in
    let lit = c.lit-item.result in
    let here : In lit c.args.clause.now = subst (λ (k : ℤ). In k c.args.clause.now) (sym c.lit-item.is) (get_in c.args.clause.now c.loop-lit.lit-index lit (omega arith)) in
    let level = c.if-level_of-top.true in
    let is = c.top.ensures in
    let some = c.requires.level in
    record {
      one = lit;
      has = here;
      still_open = λ t.
          let low = c.level_of.ensures.first (top es - 1) (subst (λ (k : ℤ). In k (trues (before_last es))) (sym c.negated.ensures) t) in
          absurd (omega (arith, low, level, is, some));
    }
