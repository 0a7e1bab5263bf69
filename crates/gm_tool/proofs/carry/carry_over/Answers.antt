use Rattle.std.proofs.Common.{sym}
use Rattle.gm_tool.proofs.CarryLemmas.{carry-log, carry-dry, carry-opening}
use Rattle.gm_tool.proofs.carry.carry_over.Goals as goal

-- the oracle is of the new problem
pub regrow_corrections-carried-requires-clause-problem : goal.regrow_corrections-carried-requires-clause-problem
regrow_corrections-carried-requires-clause-problem c = sym c.in_ok-oracle.ensures.asks_of

-- what was asked is paid for, and the records are those of the opening
pub returns-in-Ok-Opening : goal.returns-in-Ok-Opening
returns-in-Ok-Opening c =
    let p = c.args.old in
    let q = c.args.new.now in
    let before = c.in_ok-oracle.oracle in
    let after = c.regrow_corrections-carried.new.oracle in
    let left = c.regrow_corrections-carried.new.purse.left in
    let fresh = c.in_ok-oracle.ensures in
    let w = c.in-Ok-Opening in
    let spent = w.ensures.spent in (
      carry-log p q c.args.records before after left fresh spent c.into_log-log.result c.into_log-log.ensures.log c.into_log-log.ensures.honest,
      carry-opening p q c.args.records before after left fresh spent w.field-0 w.first w.field-0-is w.ensures.carried,
    )

-- or the purse was empty
pub returns-in-Ok-Dry : goal.returns-in-Ok-Dry
returns-in-Ok-Dry c =
    let w = c.in-Ok-Dry in
    carry-dry c.args.old c.args.new.now c.args.records c.in_ok-oracle.oracle c.regrow_corrections-carried.new.oracle c.regrow_corrections-carried.new.purse.left c.in_ok-oracle.ensures
    w.ensures.spent c.into_log-log.result w.field-0 w.field-0-0 w.field-0-is w.ensures.carried c.into_log-log.ensures.log c.into_log-log.ensures.honest
