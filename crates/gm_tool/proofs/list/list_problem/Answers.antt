use Rattle.std.proofs.Common.{◌+◌, ◌<◌, ◌^◌, inl, refl, arith}
use Rattle.gm_tool.specs.Closed.{learned_in}
use Rattle.gm_tool.specs.Prepared.{logs_before}
use Rattle.gm_tool.proofs.ReadyLemmas.{spent-within}
use Rattle.gm_tool.proofs.list.list_problem.Goals as goal

-- nothing was opened where memory was wanting
pub returns-in_default : goal.returns-in_default
returns-in_default g c = inl (refl, refl)

pub put_out-requires-clause-left : goal.put_out-requires-clause-left
put_out-requires-clause-left g c = (c.args.course.first, c.args.course.bounds, c.in-Ok.ensures)

-- no more is learnt in all than may be
pub put_out-requires-clause-few : goal.put_out-requires-clause-few
put_out-requires-clause-few g c =
    let few : learned_in (logs_before c.args.course.before) + c.args.course.bounds.conflicts < 2 ^ 64 = c.requires.few in
    let spent = spent-within c.in-Ok.ensures in
    omega arith

-- what is left is written
pub returns : goal.returns
returns g c = c.put_out.ensures.lists c.args.course refl refl c.requires.all c.in-Ok.ensures
