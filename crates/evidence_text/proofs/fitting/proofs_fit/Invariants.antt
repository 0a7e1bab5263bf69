use Rattle.std.proofs.Common.{take}
use Rattle.std.specs.List.{AllByRecursion}
use Rattle.evidence_text.specs.Readable.{HasRefutationIds}
use Rattle.evidence_text.proofs.fitting.proofs_fit.Given as goal

-- those so far do
abbrev pub invariant-loop-at : goal.invariant-loop-at
invariant-loop-at l = AllByRecursion HasRefutationIds (take l.at l.proofs)
