use Rattle.std.proofs.Common.{take}
use Rattle.model_flips.specs.Rotation.{HasLost}
use Rattle.model_flips.proofs.rotation.with_lost.Given as goal

-- the clauses so far are true, or their groups are left out
abbrev pub invariant-loop-place : goal.invariant-loop-place
invariant-loop-place l = HasLost l.problem l.values l.fn.left l.out (take l.place-index l.places)
