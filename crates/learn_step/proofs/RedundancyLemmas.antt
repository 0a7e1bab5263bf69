-- The walk that looks for redundant literals.
use Rattle.std.proofs.Common.{List}
use Rattle.sat_base.specs.Database.{StoredClause}
use Rattle.trail_book.specs.declared.entry.Entry.{Entry}
use Rattle.learn_step.specs.declared.redundancy.Stop.{Stop}
use Rattle.learn_step.specs.Reasons.{AreReasoned}
use Rattle.learn_step.specs.Redundancy.{IsStop}
use Rattle.learn_step.proofs.PlaceLemmas.{entry_at}
use Rattle.learn_step.proofs.AnalysisLemmas.{MayBringIn, may_bring_in}

-- the clause at which a walk stands can be looked at
pub may_look : (db : List StoredClause) (es : List Entry) (stop : Stop) → AreReasoned db es → IsStop es stop → MayBringIn db es stop.id
may_look db es stop reasoned is =
    let (e, at) = entry_at es stop.place is.within in
    may_bring_in db es stop.place e stop.id reasoned is.within at (is.forced e at)
