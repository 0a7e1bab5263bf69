use Rattle.std.proofs.Common.{◌≡◌, ◌++◌, take}
use Rattle.std.specs.Prelude.{codes}
use Rattle.std.specs.List.{flat_map}
use Rattle.std.specs.Fmt.{decimal}
use Rattle.evidence_text.specs.Text.{trues_from}
use Rattle.evidence_text.proofs.writing.push_trues.Given as goal

-- the variables so far that are true were written
abbrev pub invariant-loop-at : goal.invariant-loop-at
invariant-loop-at l = l.out.items ≡ l.fn.out.items ++ flat_map (λ v. codes " " ++ decimal v) (trues_from 1 (take l.at l.witness))
