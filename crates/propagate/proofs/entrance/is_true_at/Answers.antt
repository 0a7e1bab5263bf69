use Rattle.std.proofs.Common.{◌≡◌, ◌∙◌, Some, false, ap, subst}
use Rattle.std.specs.Prelude.{Bool}
use Rattle.sat_base.specs.Units.{IsValue}
use Rattle.trail_book.specs.Trail.{trues}
use Rattle.trail_book.proofs.TrailLemmas.{lit-keep_in, trail_consistent}
use Rattle.propagate.proofs.entrance.is_true_at.Goals as goal

-- what is not true is so up to no level
pub returns-in-None-clause-no : goal.returns-in-None-clause-no
returns-in-None-clause-no c = λ e i.
    let t = c.args.trail.now in
    (subst (IsValue (trues t.entries) c.args.lit) c.in-None.is c.value.ensures).not_true (lit-keep_in c.args.level t.entries c.args.lit i)

pub returns-in-Some-false-clause-no : goal.returns-in-Some-false-clause-no
returns-in-Some-false-clause-no c = λ e i.
    let t = c.args.trail.now in
    let value : c.value.result ≡ Some false = c.in-Some-false.is ∙ ap (λ (b : Bool). Some b) c.in-Some-false.field-0-test in
    trail_consistent t.vars t.entries c.vars-vars.ensures.trail c.args.lit (lit-keep_in c.args.level t.entries c.args.lit i) (subst (IsValue (trues t.entries) c.args.lit) value c.value.ensures)
