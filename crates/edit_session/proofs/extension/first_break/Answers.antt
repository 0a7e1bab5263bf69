use Rattle.std.proofs.Common.{arith}
use Rattle.edit_session.proofs.BreakLemmas.{if_none-extends, break-is}
use Rattle.edit_session.proofs.extension.first_break.Goals as goal

pub returns-in-None-clause-none : goal.returns-in-None-clause-none
returns-in-None-clause-none c =
    let old = c.args.old.now in
    let new = c.args.new.now in
    if_none-extends old new c.first_within.result
    (break-is old new c.first_within.result (let a = c.vars.ensures in let b = c.vars-2.ensures in omega arith) (let a = c.groups.ensures.count in let b = c.groups-else-vars.ensures.count in omega arith) (grind arith))
