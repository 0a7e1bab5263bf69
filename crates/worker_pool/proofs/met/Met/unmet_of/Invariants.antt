use Rattle.std.proofs.Common.{◌++◌, drop}
use Rattle.gm_base.specs.Sets.{IsGroupSet}
use Rattle.worker_pool.proofs.met.Met.unmet_of.Given as goal

-- what was kept ascends together with what is left
abbrev pub invariant-loop-g : goal.invariant-loop-g
invariant-loop-g l = IsGroupSet (l.unmet ++ drop l.g-index l.g-items)
