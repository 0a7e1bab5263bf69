use Rattle.std.proofs.Common.{◌≡◌, ◌++◌, List, subst}
use Rattle.std.specs.Prelude.{OnOk}
use Rattle.evidence_rec.specs.declared.record.Record.{Record}
use Rattle.edit_session.proofs.OpeningLemmas.{derives-of, witnesses-fit, kept-one}
use Rattle.edit_session.proofs.conflicts.keep.Goals as goal

pub carried_proof-requires-clause-groups : goal.carried_proof-requires-clause-groups
carried_proof-requires-clause-groups c = c.requires.extends.groups

pub carried_proof-requires-clause-derives : goal.carried_proof-requires-clause-derives
carried_proof-requires-clause-derives c = derives-of c.args.old.now c.args.known.now c.in-Conflict.set c.in-Conflict.proof c.in-Conflict.witnesses c.in-Conflict.is c.requires.known

pub carried_witnesses-requires : goal.carried_witnesses-requires
carried_witnesses-requires c =
    witnesses-fit c.args.old.now c.args.new.now c.args.known.now c.in-Conflict.set c.in-Conflict.proof c.in-Conflict.witnesses c.requires.extends c.in-Conflict.is c.requires.known

-- the conflict, carried over
pub returns : goal.returns
returns c =
    subst (λ (rs : List Record). OnOk c.push.result (c.push.new.self ≡ c.args.opening.now ++ rs))
    (kept-one c.args.old.now c.args.new.now c.args.known.now c.in-Conflict.set c.in_ok-copy.copy c.in-Conflict.proof c.in_ok-carried.carried c.in-Conflict.witnesses c.in_ok-wide.wide c.in-Conflict.is
    c.in_ok-copy.ensures c.in_ok-carried.ensures c.in_ok-wide.ensures)
    c.push.ensures.ok
