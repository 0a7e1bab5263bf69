use Rattle.std.proofs.Common.{◌≡◌, ◌<◌, ◌+◌, ℤ, Some, Option, length, take, sym, subst, arith, inl, inr}
use Rattle.std.specs.Prelude.{IfSome, IfNone, neg_ℤ}
use Rattle.sat_base.specs.Members.{In}
use Rattle.sat_base.proofs.DatabaseLemmas.{get_in}
use Rattle.trail_book.specs.Trail.{trues}
use Rattle.propagate.proofs.EnterLemmas.{IsLastOf, some_skip, nones_skip, last_new, some_last, none_last}
use Rattle.propagate.proofs.entrance.last_false.Goals.{then-not-is_that, else-not-is_that}
use Rattle.propagate.proofs.entrance.last_false.Goals as goal

-- it is one of the clause
pub later-requires-clause-lit : goal.later-requires-clause-lit
later-requires-clause-lit c =
    let has : In c.lit-item.result c.args.clause.now = subst (λ (k : ℤ). In k c.args.clause.now) (sym c.lit-item.is) (get_in c.args.clause.now c.loop-lit.lit-index c.lit-item.result (omega arith)) in
    elim (c.requires c.lit-item.result has) [ inl is ↦ absurd (c.is_that.ensures.no (grind arith) is) | inr f ↦ f ]

pub loop-lit-preserved : goal.loop-lit-preserved
loop-lit-preserved c =
    let es = c.args.trail.now.entries in
    let clause = c.args.clause.now in
    let but = c.args.but in
    let i = c.loop-lit.lit-index in
    let lit = c.lit-item.result in
    let within : i < length clause = omega arith in
    let inv = c.loop-lit.invariant in
    elim c.if-not-is_that.branch [
      | then-not-is_that w ↦
          let no = c.is_that.ensures.no (grind arith) in
          let has : In lit clause = subst (λ (k : ℤ). In k clause) (sym c.lit-item.is) (get_in clause i lit within) in
          let is_false : In (neg_ℤ lit) (trues es) = elim (c.requires lit has) [ inl is ↦ absurd (no is) | inr f ↦ f ] in
          let l = w.later.ensures in
          record {
            some = subst (λ (o : Option ℤ). IfSome o (IsLastOf es clause (take (i + 1) clause) but)) (sym w.last-is)
                (last_new es clause but i lit within c.lit-item.is c.loop-lit.last w.later.result no has is_false l.one l.over_lit l.over_last inv.some inv.none);
            none = subst (λ (o : Option ℤ). IfNone o ((m : ℤ) → In m (take (i + 1) clause) → but ≡ Some m)) (sym w.last-is) tt;
          }
      | else-not-is_that w ↦
          let yes = c.is_that.ensures.yes (grind arith) in
          record {
            some = subst (λ (o : Option ℤ). IfSome o (IsLastOf es clause (take (i + 1) clause) but)) (sym w.last-is) (some_skip es clause but i lit within c.lit-item.is c.loop-lit.last yes inv.some);
            none = subst (λ (o : Option ℤ). IfNone o ((m : ℤ) → In m (take (i + 1) clause) → but ≡ Some m)) (sym w.last-is) (nones_skip es clause but i lit within c.lit-item.is c.loop-lit.last yes inv.none);
          }
    ]

pub returns-clause-some : goal.returns-clause-some
returns-clause-some c = some_last c.args.trail.now.entries c.args.clause.now c.args.but c.loop-lit.lit-index c.loop-lit.last (omega arith) c.loop-lit.invariant.some

pub returns-clause-none : goal.returns-clause-none
returns-clause-none c = none_last c.args.clause.now c.args.but c.loop-lit.lit-index c.loop-lit.last (omega arith) c.loop-lit.invariant.none
