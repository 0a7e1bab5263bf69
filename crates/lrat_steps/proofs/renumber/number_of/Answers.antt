use Rattle.std.proofs.Common.{◌<◌, ◌+◌, ◌^◌, arith, rules}
use Rattle.sat_base.specs.Members.{In}
use Rattle.lrat_steps.proofs.ConeLemmas.{reached_derived}
use Rattle.sat_base.proofs.PlaceLemmas.{place_below}
use Rattle.lrat_steps.specs.Log.{steps_of}
use Rattle.lrat_steps.proofs.renumber.number_of.Goals as goal

pub place_of-requires-clause-has : goal.place_of-requires-clause-has
place_of-requires-clause-has c = reached_derived (steps_of c.args.log.now) c.args.cone.now c.args.id c.is_input.result c.requires.reached c.if-is_input.false c.is_input.ensures

-- the place is below the id, which is at most the number of steps
small : (c : goal.After-place_of) → c.from-2.result + 1 + c.place_of.result < 2 ^ 33
small c =
    let has : In c.args.id c.args.cone.now =
    reached_derived (steps_of c.args.log.now) c.args.cone.now c.args.id c.is_input.result c.requires.reached c.if-is_input.false c.is_input.ensures in
    let below = place_below c.args.cone.now 0 c.args.id c.requires.cone.ascends (λ m i. (c.requires.cone.derived m i).from_one) has in
    omega arith

pub overflow_add-result-2 : goal.overflow_add-result-2
overflow_add-result-2 c = let sum = small c in omega arith

pub returns-clause-small : goal.returns-clause-small
returns-clause-small c = let sum = small c in omega arith

-- an input is numbered among the inputs
pub returns-then-is_input-clause-number : goal.returns-then-is_input-clause-number
returns-then-is_input-clause-number c = search rules
