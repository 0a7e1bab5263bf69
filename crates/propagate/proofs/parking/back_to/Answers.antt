use Rattle.propagate.proofs.KeptLemmas.{kept_back, kept_hung}
use Rattle.propagate.proofs.parking.back_to.Goals as goal

pub returns-clause-kept : goal.returns-clause-kept
returns-clause-kept c = λ but k.
    let s = c.unpark_above.new.store in
    let t = c.args.trail.now in
    let u = c.unpark_above.ensures in
    let b = c.back_to.ensures in
    kept_back s t c.back_to.new.self but c.args.level b.entries b.vars b.done c.vars-vars.ensures.trail u.empty (kept_hung c.args.store.now s t but u.rest u.hung k)
