use Rattle.std.proofs.Common.{◌≡◌, subst, ap, ◌∙◌, Some, false}
use Rattle.std.specs.Prelude.{Bool}
use Rattle.sat_base.specs.Units.{IsValue}
use Rattle.trail_book.specs.Trail.{trues}
use Rattle.trail_book.proofs.TrailLemmas.{trail_consistent}
use Rattle.cdcl_core.proofs.forgetting.is_true.Goals as goal

-- a literal that is false is not true
pub returns-in-Some-false : goal.returns-in-Some-false
returns-in-Some-false c =
    let t = c.args.trail.now in
    let value : c.value.result ≡ Some false = c.in-Some-false.is ∙ ap (λ (b : Bool). Some b) c.in-Some-false.field-0-test in
    record { no = λ no is. trail_consistent t.vars t.entries c.vars-vars.ensures.trail c.args.lit is (subst (IsValue (trues t.entries) c.args.lit) value c.value.ensures) }

-- nor is one without value
pub returns-in-None : goal.returns-in-None
returns-in-None c = record { no = λ no. (subst (IsValue (trues c.args.trail.now.entries) c.args.lit) c.in-None.is c.value.ensures).not_true }
