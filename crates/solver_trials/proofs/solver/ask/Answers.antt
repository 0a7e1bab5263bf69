use Rattle.std.proofs.Common.{subst, sym}
use Rattle.cdcl_core.specs.Answers.{IsConsistent}
use Rattle.solver_trials.proofs.solver.ask.Goals as goal

pub solve-requires-clause-consistent : goal.solve-requires-clause-consistent
solve-requires-clause-consistent c =
    let fits : IsConsistent c.in-Some.assumed.items = rw c.in-Some.is at c.in_ok-assumed.ensures.consistent in
    subst IsConsistent (sym c.deref.ensures.value) fits
