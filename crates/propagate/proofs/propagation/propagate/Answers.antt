use Rattle.std.proofs.Common.{refl}
use Rattle.propagate.proofs.UnparkedLemmas.{unparked_same}
use Rattle.propagate.proofs.propagation.propagate.Goals as goal

-- what is parked stays as it was
pub returns-clause-unparked : goal.returns-clause-unparked
returns-clause-unparked c = let e = c.propagate_by.ensures in unparked_same c.args.store.now c.propagate_by.new.store e.clauses.vars (e.unasked refl)
