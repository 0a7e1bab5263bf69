use Rattle.std.proofs.Common.{arith, sym, subst}
use Rattle.std.specs.Prelude.{ℤ}
use Rattle.sat_base.specs.Members.{In}
use Rattle.sat_base.proofs.DatabaseLemmas.{get_in}
use Rattle.trail_book.specs.Trail.{trues}
use Rattle.propagate.proofs.OpenLemmas.{false_more, false_all}
use Rattle.propagate.proofs.entrance.first_open.Goals as goal

pub loop-lit-preserved : goal.loop-lit-preserved
loop-lit-preserved c =
    false_more (trues c.args.trail.now.entries) c.args.clause.now c.loop-lit.lit-index c.lit-item.result (omega arith) c.lit-item.is (c.is_false.ensures.yes (grind arith)) c.loop-lit.invariant

pub returns-clause-none : goal.returns-clause-none
returns-clause-none c = false_all (trues c.args.trail.now.entries) c.args.clause.now c.loop-lit.lit-index (omega arith) c.loop-lit.invariant

pub returns-then-not-is_false-clause-has : goal.returns-then-not-is_false-clause-has
returns-then-not-is_false-clause-has c = subst (λ (k : ℤ). In k c.args.clause.now) (sym c.lit-item.is) (get_in c.args.clause.now c.loop-lit.lit-index c.lit-item.result (omega arith))
