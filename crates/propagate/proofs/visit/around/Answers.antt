use Rattle.trail_book.specs.Trail.{trues}
use Rattle.propagate.proofs.ClauseLemmas.{but_around}
use Rattle.propagate.proofs.visit.around.Goals as goal

pub returns-in-None-clause-none : goal.returns-in-None-clause-none
returns-in-None-clause-none c =
    but_around (trues c.args.trail.now.entries) c.args.clause.now c.args.from c.args.other c.open_between-in-None.result c.in-None.ensures.none c.open_between-in-None.ensures.none
