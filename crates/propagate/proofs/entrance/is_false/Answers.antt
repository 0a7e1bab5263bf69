use Rattle.std.proofs.Common.{◌≡◌, subst, ap, ◌∙◌, Some, true, false}
use Rattle.std.specs.Prelude.{Bool}
use Rattle.sat_base.specs.Units.{IsValue}
use Rattle.trail_book.specs.Trail.{trues}
use Rattle.trail_book.proofs.TrailLemmas.{trail_consistent}
use Rattle.propagate.proofs.entrance.is_false.Goals as goal

-- a literal that is true is not false
pub returns-in-Some-true-clause-no : goal.returns-in-Some-true-clause-no
returns-in-Some-true-clause-no c = λ is.
    let t = c.args.trail.now in
    let value : c.value.result ≡ Some true = c.in-Some-true.is ∙ ap (λ (b : Bool). Some b) c.in-Some-true.field-0-test in
    trail_consistent t.vars t.entries c.vars-vars.ensures.trail c.args.lit (subst (IsValue (trues t.entries) c.args.lit) value c.value.ensures)

pub returns-in-None-clause-no : goal.returns-in-None-clause-no
returns-in-None-clause-no c = λ is. (subst (IsValue (trues c.args.trail.now.entries) c.args.lit) c.in-None.is c.value.ensures).not_false

pub returns-in-Some-false-clause-yes : goal.returns-in-Some-false-clause-yes
returns-in-Some-false-clause-yes c = λ is.
    let value : c.value.result ≡ Some false = c.in-Some-false.is ∙ ap (λ (b : Bool). Some b) c.in-Some-false.field-0-test in
    subst (IsValue (trues c.args.trail.now.entries) c.args.lit) value c.value.ensures
