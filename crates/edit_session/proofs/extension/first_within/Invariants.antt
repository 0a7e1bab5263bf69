use Rattle.std.proofs.Common.{◌≡◌, ◌+◌, drop, length}
use Rattle.edit_session.specs.Extends.{first_within}
use Rattle.edit_session.proofs.extension.first_within.Given as goal

-- the further clauses before this place are of new groups
abbrev pub invariant-loop-at : goal.invariant-loop-at
invariant-loop-at l =
    first_within l.old.groups (length l.old.clauses + 1) (drop (length l.old.clauses) l.new.clauses) ≡ first_within l.old.groups (l.at + 1) (drop l.at l.new.clauses)
