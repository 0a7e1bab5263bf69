use Rattle.std.proofs.Common.{◌≡◌, ◌⊎◌, ℤ, take}
use Rattle.sat_base.specs.Members.{In}
use Rattle.trail_book.specs.Trail.{IsTouched}
use Rattle.cdcl_core.specs.State.{IsTrueBy}
use Rattle.cdcl_core.proofs.solver.touch_all.Given as goal

-- the variables of the literals so far are touched, but of those that are true by default, and those that were
abbrev pub invariant-loop-lit : goal.invariant-loop-lit
invariant-loop-lit l = record {
  touched : (lit : ℤ) → In lit (take l.lit-index l.lits) → IsTouched l.trail.touched lit ⊎ IsTrueBy l.default lit;
  stay : (lit : ℤ) → IsTouched l.fn.trail.touched lit → IsTouched l.trail.touched lit;
  rest : l.trail ≡ record l.fn.trail { touched = l.trail.touched };
}
