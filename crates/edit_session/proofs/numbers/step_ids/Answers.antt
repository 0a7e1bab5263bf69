use Rattle.sat_base.specs.Hints.{ids_of}
use Rattle.edit_session.proofs.PlaceLemmas.{ids-next}
use Rattle.edit_session.proofs.numbers.step_ids.Goals as goal

pub loop-at-preserved : goal.loop-at-preserved
loop-at-preserved c =
    ids-next c.args.proof.now.steps c.loop-at.at (record { id = c.step.result.id; lits = c.step.result.lits.now; hints = ids_of c.step.result.hints }) c.loop-at.ids.items c.push.new.self.items
    c.step.ensures c.loop-at.invariant c.in_ok-push.ensures.items
