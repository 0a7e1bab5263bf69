use Rattle.std.proofs.Common.{take}
use Rattle.lrat_export.specs.Walk.{opened}
use Rattle.lrat_export.proofs.OpenLemmas.{OpenSoFar}
use Rattle.lrat_export.proofs.looking.look.Given as goal

abbrev pub invariant-loop-lit : goal.invariant-loop-lit
invariant-loop-lit l = OpenSoFar l.vars (opened l.vars l.marks (take l.lit-index l.clause)) l.open
