use Rattle.std.proofs.Common.{take}
use Rattle.model_flips.proofs.RotationLemmas.{IsListed}
use Rattle.model_flips.proofs.rotation.list_clause.Given as goal

-- the literals so far are listed
abbrev pub invariant-loop-lit : goal.invariant-loop-lit
invariant-loop-lit l = IsListed l.fn.places.items l.places.items l.vars l.place (take l.lit-index l.lits)
