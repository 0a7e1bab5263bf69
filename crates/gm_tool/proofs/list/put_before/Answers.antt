use Rattle.std.proofs.Common.{◌+◌, ◌<◌, ◌^◌, subst, arith}
use Rattle.gm_tool.specs.Closed.{learned_in}
use Rattle.gm_tool.specs.Prepared.{logs_before}
use Rattle.gm_tool.proofs.list.put_before.Goals as goal

-- no more is learnt in all than may be
pub overflow_add-spent : goal.overflow_add-spent
overflow_add-spent c =
    let few = subst (λ before. learned_in (logs_before before) + c.args.own.spent < 2 ^ 64) c.in-Some.is c.requires in
    let count = c.learned.ensures in
    omega arith
