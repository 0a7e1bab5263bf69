use Rattle.std.proofs.Common.{arith}
use Rattle.trail_book.specs.Trail.{trues}
use Rattle.propagate.proofs.ClauseLemmas.{pair_false}
use Rattle.propagate.proofs.visit.among.Goals as goal

-- of two literals the one is false, and the other is `other`
pub returns-then-clause-eq2-clause-none : goal.returns-then-clause-eq2-clause-none
returns-then-clause-eq2-clause-none c =
    let w = c.requires.watch in
    pair_false (trues c.args.trail.now.entries) c.args.clause.now c.args.falsified c.args.other (grind arith) w.stands w.other_stands w.differ w.is_false
