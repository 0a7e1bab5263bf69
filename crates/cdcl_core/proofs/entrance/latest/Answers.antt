use Rattle.std.proofs.Common.{◌<◌, arith, sym, subst}
use Rattle.std.specs.Prelude.{ℤ}
use Rattle.sat_base.specs.Members.{In}
use Rattle.sat_base.proofs.DatabaseLemmas.{get_in}
use Rattle.trail_book.specs.Trail.{trues, top}
use Rattle.learn_step.specs.Reasons.{before_last}
use Rattle.propagate.proofs.ClauseLemmas.{but_more, but_all}
use Rattle.cdcl_core.proofs.entrance.latest.Goals as goal

pub is_second-requires-clause-is_false : goal.is_second-requires-clause-is_false
is_second-requires-clause-is_false c =
    c.requires c.lit-item.result (subst (λ (k : ℤ). In k c.args.clause.now) (sym c.lit-item.is) (get_in c.args.clause.now c.loop-lit.lit-index c.lit-item.result (omega arith)))

pub returns-then-is_second-clause-some : goal.returns-then-is_second-clause-some
returns-then-is_second-clause-some c =
    let es = c.args.trail.now.entries in
    let found = c.is_second.ensures.yes (grind arith) in
    let up : 0 < top es = grind arith in (
      record {
        has = subst (λ (k : ℤ). In k c.args.clause.now) (sym c.lit-item.is) (get_in c.args.clause.now c.loop-lit.lit-index c.lit-item.result (omega arith));
        other = found.0;
        still_open = found.1;
      },
      up,
    )

pub loop-lit-preserved : goal.loop-lit-preserved
loop-lit-preserved c =
    but_more (trues (before_last c.args.trail.now.entries)) c.args.clause.now c.loop-lit.lit-index c.lit-item.result c.args.first (omega arith) c.lit-item.is (c.is_second.ensures.no (grind arith)) c.loop-lit.invariant

pub returns-clause-none : goal.returns-clause-none
returns-clause-none c = λ up. but_all (trues (before_last c.args.trail.now.entries)) c.args.clause.now c.loop-lit.lit-index c.args.first (omega arith) c.loop-lit.invariant
