use Rattle.std.proofs.Common.{◌≡◌, take}
use Rattle.sat_base.specs.Derivation.{numbered}
use Rattle.lrat_check.proofs.checker.Checker.new.Given as goal

-- the clauses so far were given
abbrev pub invariant-loop-lits : goal.invariant-loop-lits
invariant-loop-lits l =
    record {
      vars : l.checker.vars ≡ l.vars;
      inputs : l.checker.inputs ≡ l.lits-index;
      known : l.checker.known ≡ numbered 1 (take l.lits-index l.inputs);
    }
