use Rattle.std.proofs.Common.{◌≡◌, ◌⊎◌, ◌+◌, ◌-◌, ℕ, List, true, false, set, subst, sym, ap, ◌∙◌, arith}
use Rattle.std.specs.Prelude.{Bool, pos, slice_index_or}
use Rattle.sat_base.specs.Literals.{literal_true, var_of}
use Rattle.sat_base.specs.Units.{HasValue}
use Rattle.trail_book.specs.Trail.{trues, oldest}
use Rattle.cdcl_core.proofs.AssignLemmas.{placed, values_step, others_step}
use Rattle.cdcl_core.proofs.decisions.assignment.Goals as goal

pub set-requires-clause-in_range : goal.set-requires-clause-in_range
set-requires-clause-in_range c =
    let trail = c.args.trail.now in
    let lit = placed trail.vars c.loop-place.place trail.entries c.at-lit.result c.vars.ensures.trail c.at-lit.ensures in
    let high = lit.1.in_range in
    omega (arith, high, c.var.ensures.same, c.loop-place.invariant.len)

pub loop-place-preserved : goal.loop-place-preserved
loop-place-preserved c =
    let trail = c.args.trail.now in
    let lit = c.at-lit.result in
    let assign = c.loop-place.builder in
    let b = c.is_positive.result in
    let inv = c.loop-place.invariant in
    let is : c.set.new.self ≡ set assign (var_of lit - 1) b = c.set.ensures.value ∙ ap (λ (v : ℕ). set assign (v - 1) b) c.var.ensures.same in
    record {
      len = c.set.ensures.len ∙ inv.len;
      values = λ l i.
          subst (λ (xs : List Bool). literal_true xs l ≡ true) (sym is)
          (values_step trail.vars c.loop-place.place trail.entries lit assign b c.vars.ensures.trail c.at-lit.ensures inv.len c.is_positive.ensures.0 c.is_positive.ensures.1 inv.values l i);
      others = λ index h.
          subst (λ (xs : List Bool). HasValue (trues (oldest (c.loop-place.place + 1) trail.entries)) (pos (index + 1)) ⊎ (slice_index_or xs index false ≡ c.args.other)) (sym is)
          (others_step trail.vars c.loop-place.place trail.entries lit assign b c.args.other (placed trail.vars c.loop-place.place trail.entries lit c.vars.ensures.trail c.at-lit.ensures).1.not_zero c.at-lit.ensures inv.others index h);
    }
