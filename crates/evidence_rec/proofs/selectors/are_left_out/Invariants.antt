use Rattle.std.proofs.Common.{◌≡◌, take, true}
use Rattle.std.specs.List.{list_all}
use Rattle.evidence_rec.specs.Basis.{refuted_set}
use Rattle.evidence_rec.specs.Refusals.{leaves_out}
use Rattle.evidence_rec.proofs.selectors.are_left_out.Given as goal

-- each literal so far says that some group is left out
abbrev pub invariant-loop-lit : goal.invariant-loop-lit
invariant-loop-lit l = list_all (leaves_out l.problem (refuted_set l.problem.groups l.set l.own)) (take l.lit-index l.clause) ≡ true
