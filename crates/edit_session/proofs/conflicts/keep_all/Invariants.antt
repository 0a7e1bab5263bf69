use Rattle.std.proofs.Common.{◌≡◌, ◌++◌, take}
use Rattle.edit_session.specs.Carried.{kept}
use Rattle.edit_session.proofs.conflicts.keep_all.Given as goal

-- the conflicts before this place were added
abbrev pub invariant-loop-at : goal.invariant-loop-at
invariant-loop-at l = l.opening ≡ l.fn.opening ++ kept l.old l.new (take l.at l.records)
