use Rattle.std.proofs.Common.{◌≡◌, drop}
use Rattle.std.specs.List.{find}
use Rattle.evidence_rec.specs.Places.{places_of}
use Rattle.evidence_rec.specs.Serving.{is_apart}
use Rattle.evidence_rec.proofs.serving.first_apart.Given as goal

-- no place of the blocks so far passes, so that those from here on tell
abbrev pub invariant-loop-block : goal.invariant-loop-block
invariant-loop-block l = find (is_apart l.lists l.set l.group) (places_of l.blocks) ≡ find (is_apart l.lists l.set l.group) (places_of (drop l.block-index l.blocks))
