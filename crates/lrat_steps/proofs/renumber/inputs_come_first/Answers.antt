use Rattle.std.proofs.Common.{arith}
use Rattle.lrat_steps.specs.Log.{steps_of}
use Rattle.lrat_steps.proofs.FirstLemmas.{inputs_within}
use Rattle.lrat_steps.proofs.renumber.inputs_come_first.Goals as goal

-- there are no more inputs than steps
pub input_number-requires-clause-within : goal.input_number-requires-clause-within
input_number-requires-clause-within c = let few = inputs_within (steps_of c.args.log.now) in omega (arith, c.input_count-inputs.ensures, c.from.ensures)
