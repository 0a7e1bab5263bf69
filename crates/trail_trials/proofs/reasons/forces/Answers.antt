use Rattle.std.proofs.Common.{arith}
use Rattle.trail_book.specs.Trail.{trues, oldest}
use Rattle.trail_trials.proofs.ReasonLemmas.{reason_of}
use Rattle.trail_trials.proofs.reasons.forces.Goals as goal

pub returns-then-is_among : goal.returns-then-is_among
returns-then-is_among c = λ h.
    let db = c.args.store.now.clauses in
    reason_of db (trues (oldest c.args.place c.args.trail.now.entries)) c.args.lit c.args.id c.lits-clause.result.now (c.is_id.ensures (grind arith)) c.lits-clause.ensures.lits (c.is_among.ensures.yes c.if-is_among.true) (c.are_false_but.ensures h)
