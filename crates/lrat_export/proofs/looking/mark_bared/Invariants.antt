use Rattle.std.proofs.Common.{take}
use Rattle.lrat_check.specs.Marks.{HasPlaces, AreMarked}
use Rattle.lrat_export.specs.Export.{bared}
use Rattle.lrat_export.proofs.looking.mark_bared.Given as goal

-- what is left of the literals so far is marked
abbrev pub invariant-loop-lit : goal.invariant-loop-lit
invariant-loop-lit l = record { places : HasPlaces l.vars l.marks; marked : AreMarked l.marks (bared l.vars (take l.lit-index l.lits)) }
