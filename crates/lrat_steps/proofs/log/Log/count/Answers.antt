use Rattle.std.proofs.Common.{arith}
use Rattle.lrat_steps.proofs.MarkLemmas.{count_of}
use Rattle.lrat_steps.proofs.log.Log.count.Goals as goal

-- what is shown, and a record for each step of its own
pub returns : goal.returns
returns c = let count = count_of c.self.inside c.args.self.now c.self.invariant c.self.view_is in omega arith
