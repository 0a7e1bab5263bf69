use Rattle.std.proofs.Common.{arith}
use Rattle.trail_trials.proofs.ReasonLemmas.{conflict_of}
use Rattle.trail_trials.proofs.reasons.is_conflict.Goals as goal

pub returns-then-are_false : goal.returns-then-are_false
returns-then-are_false c = λ h.
    conflict_of c.args.store.now.clauses c.args.trail.now.entries c.args.id c.lits-clause.result.now (c.is_id.ensures (grind arith)) c.lits-clause.ensures.lits (c.are_false.ensures c.if-are_false.true) (c.has_open.ensures h)
