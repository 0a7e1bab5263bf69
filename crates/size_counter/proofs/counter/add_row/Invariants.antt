use Rattle.std.proofs.Common.{◌≡◌, ◌++◌}
use Rattle.size_counter.specs.Counter.{counted, cells}
use Rattle.size_counter.proofs.counter.add_row.Given as goal

-- the cells so far
abbrev pub invariant-loop-columns : goal.invariant-loop-columns
invariant-loop-columns l = l.clauses ≡ l.initial.clauses ++ cells l.groups l.bound l.rows (counted l.fn.kind l.group) l.columns
