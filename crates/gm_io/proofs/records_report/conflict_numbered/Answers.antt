use Rattle.gm_io.proofs.NumberedLemmas.{found-lent, missing-lent}
use Rattle.gm_io.proofs.records_report.conflict_numbered.Goals as goal

-- the set at the place is found
pub returns-in-Some : goal.returns-in-Some
returns-in-Some c = λ p ok good.
    let at = c.in-Some.ensures.lookup.3 in
    found-lent p c.args.records.now ok good c.in_ok-found.found.conflicts c.in_ok-found.ensures.conflicts c.as_slice-sets.result.now c.in_ok-order.order.items c.as_slice-sets.ensures.value
    c.in_ok-order.ensures c.args.number c.requires c.in-Some.set.now c.conflict_of.result at.0 (at.1 c.in-Some.set.now) c.conflict_of.ensures

-- no set stands there
pub returns : goal.returns
returns c = λ p ok good.
    missing-lent p c.args.records.now ok good c.in_ok-found.found.conflicts c.in_ok-found.ensures.conflicts c.as_slice-sets.result.now c.in_ok-order.order.items c.as_slice-sets.ensures.value
    c.in_ok-order.ensures c.args.number c.requires c.in-None.ensures.lookup.3
