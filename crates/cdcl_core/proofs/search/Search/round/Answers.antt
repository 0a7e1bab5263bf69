use Rattle.lrat_steps.specs.Log.{inputs_of}
use Rattle.cdcl_core.proofs.StateLemmas.{paid_join, touched_is}
use Rattle.cdcl_core.proofs.RoundLemmas.{round_at, round_grown_ok}
use Rattle.cdcl_core.proofs.search.Search.round.Goals as goal

-- propagation brings no input, and touches nothing
pub on_fixpoint-requires-clause-touched : goal.on_fixpoint-requires-clause-touched
on_fixpoint-requires-clause-touched c =
    let s = c.args.self.now in
    let now = c.spread.new.self in
    touched_is s.true_first now.true_first s.trail.touched now.trail.touched (inputs_of s.log) (inputs_of now.log) c.spread.ensures.true_first c.spread.ensures.touched (c.spread.ensures.paid 0).paid.inputs c.requires.touched

pub returns-in-Conflict-clause-paid : goal.returns-in-Conflict-clause-paid
returns-in-Conflict-clause-paid c =
    let left = c.args.purse.now.left in
    paid_join c.args.self.now.log c.spread.new.self.log c.on_conflict.new.self.log left left c.on_conflict.new.purse.left (c.spread.ensures.paid left) c.on_conflict.ensures.paid

pub returns-in-Fixpoint-clause-round : goal.returns-in-Fixpoint-clause-round
returns-in-Fixpoint-clause-round c =
    let left = c.args.purse.now.left in
    let mid = c.spread.new.self in
    let new = c.on_fixpoint.new.self in
    let assumed = c.args.assumed.now in
    round_grown_ok c.args.self.now mid new assumed left left c.on_fixpoint.result c.in_ok-id.ensures.grows (round_at mid new assumed left c.on_fixpoint.result c.on_fixpoint.ensures.round)

pub returns-in-Fixpoint-clause-paid : goal.returns-in-Fixpoint-clause-paid
returns-in-Fixpoint-clause-paid c =
    let left = c.args.purse.now.left in
    paid_join c.args.self.now.log c.spread.new.self.log c.on_fixpoint.new.self.log left left left (c.spread.ensures.paid left) (c.on_fixpoint.ensures.paid left)

-- propagation costs nothing
pub returns-in_err-id-clause-paid : goal.returns-in_err-id-clause-paid
returns-in_err-id-clause-paid c = c.spread.ensures.paid c.args.purse.now.left
