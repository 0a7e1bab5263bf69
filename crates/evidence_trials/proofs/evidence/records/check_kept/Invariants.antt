use Rattle.std.proofs.Common.{◌≡◌}
use Rattle.evidence_rec.specs.Basis.{basis_of}
use Rattle.evidence_trials.proofs.evidence.records.check_kept.Given as goal

-- the checker is one of the problem
abbrev pub invariant-loop-record : goal.invariant-loop-record
invariant-loop-record l = l.checker ≡ basis_of l.problem
