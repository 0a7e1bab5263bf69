use Rattle.std.proofs.Common.{arith}
use Rattle.lrat_steps.proofs.GivenLemmas.{ends_count}
use Rattle.lrat_steps.proofs.given.Clauses.len.Goals as goal

-- an end for each clause
pub returns : goal.returns
returns c = let count = ends_count c.self.inside c.args.self.now c.self.view_is in omega arith
