use Rattle.trail_trials.proofs.ReasonLemmas.{false_of}
use Rattle.trail_trials.proofs.reasons.is_false_clause.Goals as goal

pub returns-then-is_id : goal.returns-then-is_id
returns-then-is_id c = λ h.
    false_of c.args.store.now.clauses c.args.trail.now.entries c.args.id c.lits.result.now (c.is_id.ensures c.if-is_id.true) c.lits.ensures.lits (c.are_false.ensures h)
