use Rattle.std.proofs.Common.{◌≡◌, ◌++◌, take}
use Rattle.size_counter.specs.Levels.{level_counter}
use Rattle.size_counter.proofs.level.Level.add_clauses.Given as goal

-- the clauses so far
abbrev pub invariant-loop-at : goal.invariant-loop-at
invariant-loop-at l = l.clauses ≡ l.initial.clauses ++ take l.at (level_counter l.self)
