use Rattle.std.proofs.Common.{sym, ◌∙◌}
use Rattle.cdcl_core.proofs.StateLemmas.{paid_join}
use Rattle.cdcl_core.proofs.UnitLemmas.{keeps-join, same_length}
use Rattle.cdcl_core.proofs.search.Search.log_units.Goals as goal

pub returns-in_err-log_unit-clause-paid : goal.returns-in_err-log_unit-clause-paid
returns-in_err-log_unit-clause-paid c =
    λ left. paid_join c.args.self.now.log c.loop-place.self.log c.log_unit.new.self.log left left left (c.loop-place.invariant.paid left) (c.log_unit.ensures.paid left)

pub loop-place-preserved : goal.loop-place-preserved
loop-place-preserved c =
    let step = c.in_ok-log_unit.ensures in
    let inv = c.loop-place.invariant in
    record {
      at_root = step.at_root;
      keeps = keeps-join c.args.self.now c.loop-place.self c.log_unit.new.self inv.keeps step.keeps;
      paid = λ left. paid_join c.args.self.now.log c.loop-place.self.log c.log_unit.new.self.log left left left (inv.paid left) (step.paid left);
      vars = step.vars ∙ inv.vars;
      touched = step.touched ∙ inv.touched;
      true_first = c.log_unit.ensures.true_first ∙ inv.true_first;
      len = inv.len ∙ sym (same_length c.loop-place.self.trail.entries c.log_unit.new.self.trail.entries step.keeps.trues_are);
    }
