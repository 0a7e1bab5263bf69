use Rattle.std.proofs.Common.{◌++◌, take}
use Rattle.sat_base.specs.Derivation.{numbered}
use Rattle.gm_base.specs.Evidence.{selector_form}
use Rattle.lrat_export.specs.Numbers.{AreEntries}
use Rattle.lrat_export.proofs.StepLemmas.{clauses_in}
use Rattle.lrat_export.proofs.numbering.number_steps.Given as goal

-- the steps so far have their entries
abbrev pub invariant-loop-at : goal.invariant-loop-at
invariant-loop-at l = AreEntries l.problem.vars l.set (numbered 1 (selector_form l.problem) ++ clauses_in (take l.at l.proof.steps)) l.entries.items l.next
