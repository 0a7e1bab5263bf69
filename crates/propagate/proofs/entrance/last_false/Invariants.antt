use Rattle.std.proofs.Common.{◌≡◌, Some, take}
use Rattle.std.specs.Prelude.{ℤ, IfSome, IfNone}
use Rattle.sat_base.specs.Members.{In}
use Rattle.propagate.proofs.EnterLemmas.{IsLastOf}
use Rattle.propagate.proofs.entrance.last_false.Given as goal

-- of the literals before it is the one that became false last
abbrev pub invariant-loop-lit : goal.invariant-loop-lit
invariant-loop-lit l = record {
  some : IfSome l.last (IsLastOf l.trail.entries l.clause (take l.lit-index l.clause) l.but);
  none : IfNone l.last ((m : ℤ) → In m (take l.lit-index l.clause) → l.but ≡ Some m);
}
