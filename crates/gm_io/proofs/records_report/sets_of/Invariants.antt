use Rattle.std.proofs.Common.{◌≡◌, take}
use Rattle.evidence_rec.specs.Held.{conflicts_in, corrections_in}
use Rattle.gm_io.proofs.records_report.sets_of.Given as goal

-- the sets of the records so far
abbrev pub invariant-loop-made : goal.invariant-loop-made
invariant-loop-made l =
    (l.conflicts ≡ conflicts_in (take l.made-index l.records)) × (l.corrections ≡ corrections_in (take l.made-index l.records))
