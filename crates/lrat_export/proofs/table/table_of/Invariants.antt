use Rattle.std.proofs.Common.{◌≡◌, ◌+◌, length}
use Rattle.lrat_export.specs.Table.{IsTableOf}
use Rattle.lrat_export.proofs.table.table_of.Given as goal

-- the groups so far have their places, and so has the background
abbrev pub invariant-loop-at : goal.invariant-loop-at
invariant-loop-at l = (length l.table.items ≡ l.at + 1) × IsTableOf l.set l.table.items
