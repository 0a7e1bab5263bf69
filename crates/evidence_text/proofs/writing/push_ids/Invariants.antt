use Rattle.std.proofs.Common.{◌≡◌, ◌++◌, take}
use Rattle.std.specs.Prelude.{codes}
use Rattle.std.specs.List.{flat_map}
use Rattle.std.specs.Fmt.{decimal}
use Rattle.sat_base.specs.Hints.{ids_of}
use Rattle.evidence_text.proofs.writing.push_ids.Given as goal

-- those so far were written
abbrev pub invariant-loop-at : goal.invariant-loop-at
invariant-loop-at l = l.out.items ≡ l.fn.out.items ++ flat_map (λ x. codes " " ++ decimal x) (take l.at (ids_of l.ids))
