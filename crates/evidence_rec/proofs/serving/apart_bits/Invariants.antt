use Rattle.std.proofs.Common.{◌≡◌, ◌+◌, ◌*◌, ◌<◌, ◌&&◌, ℕ, take}
use Rattle.evidence_rec.specs.Columns.{is_set}
use Rattle.evidence_rec.specs.Serving.{is_apart}
use Rattle.evidence_rec.proofs.serving.apart_bits.Given as goal

-- the bits whose places none of the groups so far has
abbrev pub invariant-loop-other : goal.invariant-loop-other
invariant-loop-other l = (i : ℕ) → i < 32 → is_set l.bits i ≡ (is_set l.block.bits i && is_apart l.lists (take l.other-index l.set) l.group (32 * l.block.at + i))
