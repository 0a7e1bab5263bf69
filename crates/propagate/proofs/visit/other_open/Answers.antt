use Rattle.std.proofs.Common.{arith, sym, subst}
use Rattle.std.specs.Prelude.{ℤ}
use Rattle.sat_base.specs.Members.{In}
use Rattle.sat_base.proofs.DatabaseLemmas.{get_in}
use Rattle.trail_book.specs.Trail.{trues}
use Rattle.propagate.proofs.GrowsLemmas.{literal_in}
use Rattle.propagate.proofs.ClauseLemmas.{but_more, but_all}
use Rattle.propagate.proofs.visit.other_open.Goals as goal

pub loop-lit-preserved : goal.loop-lit-preserved
loop-lit-preserved c =
    but_more (trues c.args.trail.now.entries) c.args.clause.now c.loop-lit.lit-index c.lit-item.result c.args.other (omega arith) c.lit-item.is (c.may_watch.ensures.no (grind arith)) c.loop-lit.invariant

pub returns-clause-none : goal.returns-clause-none
returns-clause-none c = but_all (trues c.args.trail.now.entries) c.args.clause.now c.loop-lit.lit-index c.args.other (omega arith) c.loop-lit.invariant

pub returns-then-may_watch-clause-found : goal.returns-then-may_watch-clause-found
returns-then-may_watch-clause-found c =
    let open_to = c.may_watch.ensures.yes (grind arith) in
    let stands : In c.lit-item.result c.args.clause.now = subst (λ (k : ℤ). In k c.args.clause.now) (sym c.lit-item.is) (get_in c.args.clause.now c.loop-lit.lit-index c.lit-item.result (omega arith)) in
    record {
      stands = stands;
      differs = open_to.0;
      not_false = open_to.1;
      literal = literal_in c.args.trail.now.vars c.args.clause.now c.lit-item.result c.requires stands;
    }
