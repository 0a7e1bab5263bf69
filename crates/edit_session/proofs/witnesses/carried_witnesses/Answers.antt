use Rattle.edit_session.specs.Carried.{carried_witness}
use Rattle.edit_session.proofs.PlaceLemmas.{map-next}
use Rattle.edit_session.proofs.witnesses.carried_witnesses.Goals as goal

-- one more
pub loop-at-preserved : goal.loop-at-preserved
loop-at-preserved c =
    map-next (carried_witness c.args.new.now) c.args.witnesses.now c.loop-at.at c.at.result.now c.in_ok-witness.witness c.loop-at.wide.items c.push.new.self.items
    c.at.ensures c.in_ok-witness.ensures c.loop-at.invariant c.in_ok-push.ensures.items
