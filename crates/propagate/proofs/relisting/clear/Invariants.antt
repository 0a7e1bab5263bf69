use Rattle.std.proofs.Common.{◌≡◌, ◌-◌, ◌≤◌}
use Rattle.std.specs.Prelude.{ℤ}
use Rattle.sat_base.specs.Literals.{IsLiteral, var_of}
use Rattle.clause_store.specs.Links.{head_of, tail_of, park_of}
use Rattle.propagate.proofs.relisting.clear.Given as goal

-- the lists of the literals up to this variable are empty
abbrev pub invariant-loop-var : goal.invariant-loop-var
invariant-loop-var l =
    record {
      heads : (lit : ℤ) → IsLiteral l.fn.store.vars lit → var_of lit ≤ l.var → head_of l.store lit ≡ 0;
      tails : (lit : ℤ) → IsLiteral l.fn.store.vars lit → var_of lit ≤ l.var → tail_of l.store lit ≡ 0;
      parks : (lit : ℤ) → IsLiteral l.fn.store.vars lit → var_of lit ≤ l.var → park_of l.store lit ≡ 0;
      rest : l.store ≡ record l.fn.store { heads = l.store.heads; tails = l.store.tails; parks = l.store.parks };
    }

abbrev pub decreases-loop-var : goal.decreases-loop-var
decreases-loop-var l = l.store.vars - l.var
