use Rattle.std.proofs.Common.{◌∙◌}
use Rattle.cdcl_core.proofs.RoundLemmas.{smaller, goes_on}
use Rattle.lrat_steps.specs.Log.{inputs_of}
use Rattle.cdcl_core.proofs.StateLemmas.{paid_join, touched_is}
use Rattle.cdcl_core.proofs.search.Search.search.Goals as goal

-- the rounds before brought no input, and touched nothing
pub round-requires-clause-touched : goal.round-requires-clause-touched
round-requires-clause-touched c =
    let s = c.args.self.now in
    let now = c.loop-answer.self in
    let inv = c.loop-answer.invariant in
    touched_is s.true_first now.true_first s.trail.touched now.trail.touched (inputs_of s.log) (inputs_of now.log) inv.true_first inv.touched inv.paid.paid.inputs c.requires.touched

pub loop-answer-smaller : goal.loop-answer-smaller
loop-answer-smaller c =
    let old = c.loop-answer.self in
    let new = c.round.new.self in
    let assumed = c.args.assumed.now in
    let before = c.loop-answer.purse.left in
    let left = c.round.new.purse.left in
    smaller old new assumed before left c.round.ensures.vars (goes_on old new assumed before left c.in_ok-answer.field-0 c.in_default.not-Some c.in_ok-answer.ensures.round)

-- what the rounds before cost, and the last one
pub returns-in-Some-clause-paid : goal.returns-in-Some-clause-paid
returns-in-Some-clause-paid c =
    paid_join c.args.self.now.log c.loop-answer.self.log c.round.new.self.log c.args.purse.now.left c.loop-answer.purse.left c.round.new.purse.left c.loop-answer.invariant.paid c.round.ensures.paid

pub returns-in-Some-clause-vars : goal.returns-in-Some-clause-vars
returns-in-Some-clause-vars c = c.round.ensures.vars ∙ c.loop-answer.invariant.vars

pub returns-in-Some-clause-touched : goal.returns-in-Some-clause-touched
returns-in-Some-clause-touched c = c.round.ensures.touched ∙ c.loop-answer.invariant.touched

pub returns-in-Some-clause-true_first : goal.returns-in-Some-clause-true_first
returns-in-Some-clause-true_first c = c.round.ensures.true_first ∙ c.loop-answer.invariant.true_first

pub returns-in_err-answer-clause-paid : goal.returns-in_err-answer-clause-paid
returns-in_err-answer-clause-paid c =
    paid_join c.args.self.now.log c.loop-answer.self.log c.round.new.self.log c.args.purse.now.left c.loop-answer.purse.left c.round.new.purse.left c.loop-answer.invariant.paid c.round.ensures.paid

pub returns-in_err-answer-clause-vars : goal.returns-in_err-answer-clause-vars
returns-in_err-answer-clause-vars c = c.round.ensures.vars ∙ c.loop-answer.invariant.vars

pub returns-in_err-answer-clause-touched : goal.returns-in_err-answer-clause-touched
returns-in_err-answer-clause-touched c = c.round.ensures.touched ∙ c.loop-answer.invariant.touched

pub returns-in_err-answer-clause-true_first : goal.returns-in_err-answer-clause-true_first
returns-in_err-answer-clause-true_first c = c.round.ensures.true_first ∙ c.loop-answer.invariant.true_first
