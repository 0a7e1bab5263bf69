use Rattle.std.proofs.Common.{◌≡◌, ◌+◌, take}
use Rattle.sat_base.specs.Derivation.{numbered}
use Rattle.gm_base.specs.Evidence.{selector_form}
use Rattle.evidence_rec.proofs.selectors.selector_checker.Given as goal

-- the clauses so far were given, with their selectors
abbrev pub invariant-loop-at : goal.invariant-loop-at
invariant-loop-at l =
    record {
      vars : l.checker.vars ≡ l.problem.vars + l.problem.groups;
      inputs : l.checker.inputs ≡ l.at;
      known : l.checker.known ≡ numbered 1 (take l.at (selector_form l.problem));
    }
