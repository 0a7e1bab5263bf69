use Rattle.std.proofs.Common.{take}
use Rattle.lrat_check.specs.Marks.{unmarked}
use Rattle.lrat_check.proofs.OpenLemmas.{OpenSoFar}
use Rattle.lrat_check.proofs.follow.look.Given as goal

abbrev pub invariant-loop-lit : goal.invariant-loop-lit
invariant-loop-lit l = OpenSoFar (unmarked l.marks (take l.lit-index l.clause)) l.open
