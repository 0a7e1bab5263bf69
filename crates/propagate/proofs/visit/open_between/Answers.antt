use Rattle.std.proofs.Common.{arith, sym, subst, ◌≡◌, ℕ, take}
use Rattle.std.specs.Prelude.{ℤ}
use Rattle.sat_base.specs.Members.{In}
use Rattle.sat_base.specs.Units.{AllFalseBut}
use Rattle.sat_base.proofs.DatabaseLemmas.{get_in}
use Rattle.trail_book.specs.Trail.{trues}
use Rattle.propagate.proofs.GrowsLemmas.{literal_in}
use Rattle.propagate.proofs.ClauseLemmas.{but_more}
use Rattle.propagate.proofs.visit.open_between.Goals as goal

pub loop-place-preserved : goal.loop-place-preserved
loop-place-preserved c = λ before.
    but_more (trues c.args.trail.now.entries) c.args.clause.now c.loop-place.place c.index-clause-place.result c.args.other (omega (arith, c.loop-place-test.true, c.requires.to)) c.index-clause-place.is (c.may_watch.ensures.no (grind arith)) (c.loop-place.invariant before)

pub returns-clause-none : goal.returns-clause-none
returns-clause-none c = λ before.
    let end : c.loop-place.place ≡ c.args.to = omega (arith, c.loop-place-test.false, c.loop-place.auto.place-end c.requires.from) in
    subst (λ (k : ℕ). AllFalseBut (trues c.args.trail.now.entries) (take k c.args.clause.now) c.args.other) end (c.loop-place.invariant before)

pub returns-then-may_watch-clause-found : goal.returns-then-may_watch-clause-found
returns-then-may_watch-clause-found c =
    let open_to = c.may_watch.ensures.yes (grind arith) in
    let stands : In c.index-clause-place.result c.args.clause.now = subst (λ (k : ℤ). In k c.args.clause.now) (sym c.index-clause-place.is)
    (get_in c.args.clause.now c.loop-place.place c.index-clause-place.result (omega (arith, c.loop-place-test.true, c.requires.to))) in
    record {
      stands = stands;
      differs = open_to.0;
      not_false = open_to.1;
      literal = literal_in c.args.trail.now.vars c.args.clause.now c.index-clause-place.result c.requires.literals stands;
    }
