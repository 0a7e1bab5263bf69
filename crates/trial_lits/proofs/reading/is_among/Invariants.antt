use Rattle.std.proofs.Common.{take}
use Rattle.sat_base.specs.Members.{In}
use Rattle.trial_lits.proofs.reading.is_among.Given as goal

-- the literals before are other ones
abbrev pub invariant-loop-other : goal.invariant-loop-other
invariant-loop-other l = ¬ In l.lit (take l.other-index l.lits)
