use Rattle.std.proofs.Common.{take}
use Rattle.learn_step.specs.Places.{HasPlaces}
use Rattle.learn_step.proofs.analysis.insert_below.Given as goal

abbrev pub invariant-loop-lit : goal.invariant-loop-lit
invariant-loop-lit l = HasPlaces l.trail.entries (take l.lit-index l.lits) l.below l.fn.places l.places
