use Rattle.std.proofs.Common.{◌∙◌, sym, ap, subst}
use Rattle.std.specs.Prelude.{ℤ, List, Some}
use Rattle.learn_step.specs.Reasons.{HasUnit}
use Rattle.trail_trials.proofs.ReasonLemmas.{named}
use Rattle.trail_trials.proofs.reasons.has_unit.Goals as goal

-- the clause of the unit step is the literal alone
pub returns-then-is_id : goal.returns-then-is_id
returns-then-is_id c = λ h.
    let db = c.args.store.now.clauses in
    let lits = c.lits.result.now in
    let is = named db c.in-Some.id lits (c.is_id.ensures c.if-is_id.true) c.lits.ensures.lits in
    subst (HasUnit db c.args.lit) (sym c.in-Some.is) (is ∙ ap (λ (ls : List ℤ). Some ls) (c.is_only.ensures h))
