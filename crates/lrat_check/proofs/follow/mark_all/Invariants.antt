use Rattle.std.proofs.Common.{◌≡◌, take, length}
use Rattle.lrat_check.specs.Marks.{AreMarked}
use Rattle.lrat_check.proofs.follow.mark_all.Given as goal

-- the literals so far are marked
abbrev pub invariant-loop-lit : goal.invariant-loop-lit
invariant-loop-lit l = record { len : length l.marks ≡ length l.fn.marks; marked : AreMarked l.marks (take l.lit-index l.lits) }
