use Rattle.std.proofs.Common.{◌≡◌, ◌+◌, drop}
use Rattle.edit_session.specs.Extends.{first_other}
use Rattle.edit_session.proofs.extension.first_other.Given as goal

-- the clauses before this place are the same
abbrev pub invariant-loop-at : goal.invariant-loop-at
invariant-loop-at l = first_other 1 l.old.clauses l.new.clauses ≡ first_other (l.at + 1) (drop l.at l.old.clauses) (drop l.at l.new.clauses)
