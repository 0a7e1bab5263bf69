use Rattle.cdcl_core.proofs.ForgetLemmas.{step_within}
use Rattle.cdcl_core.proofs.forgetting.is_learnt.Goals as goal

-- the id of a clause is that of a step
pub kind-requires-clause-within : goal.kind-requires-clause-within
kind-requires-clause-within c =
    let s = c.args.search.now in
    step_within s.trail.vars s.store.clauses s.log c.args.id c.requires.stale.root.state.recorded c.requires.id
