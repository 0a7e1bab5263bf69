use Rattle.std.proofs.Common.{◌≡◌, ◌≢◌, subst, ap, ◌∙◌, arith, inr, Some, true, false}
use Rattle.std.specs.Prelude.{Bool}
use Rattle.sat_base.specs.Units.{IsValue}
use Rattle.trail_book.specs.Trail.{trues}
use Rattle.trail_book.proofs.TrailLemmas.{trail_consistent}
use Rattle.propagate.proofs.visit.may_watch.Goals as goal

-- a literal that is true is not false
pub returns-in-Some-true-clause-yes : goal.returns-in-Some-true-clause-yes
returns-in-Some-true-clause-yes c = λ is.
    let t = c.args.trail.now in
    let ne : c.args.lit ≢ c.args.other = grind arith in
    let value : c.value.result ≡ Some true = c.in-Some-true.is ∙ ap (λ (b : Bool). Some b) c.in-Some-true.field-0-test in
    (ne, trail_consistent t.vars t.entries c.vars-vars.ensures.trail c.args.lit (subst (IsValue (trues t.entries) c.args.lit) value c.value.ensures))

pub returns-in-None-clause-yes : goal.returns-in-None-clause-yes
returns-in-None-clause-yes c = λ is.
    let ne : c.args.lit ≢ c.args.other = grind arith in
    (ne, (subst (IsValue (trues c.args.trail.now.entries) c.args.lit) c.in-None.is c.value.ensures).not_false)

-- and one that is false is
pub returns-in-Some-false-clause-no : goal.returns-in-Some-false-clause-no
returns-in-Some-false-clause-no c = λ is.
    let value : c.value.result ≡ Some false = c.in-Some-false.is ∙ ap (λ (b : Bool). Some b) c.in-Some-false.field-0-test in
    inr (subst (IsValue (trues c.args.trail.now.entries) c.args.lit) value c.value.ensures)
