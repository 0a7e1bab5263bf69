use Rattle.std.proofs.Common.{◌≡◌, ◌<◌, ℕ, length, take}
use Rattle.evidence_rec.specs.Numbered.{AreBelow}
use Rattle.evidence_rec.proofs.ServingLemmas.{AreListed}
use Rattle.evidence_rec.proofs.serving.list_under.Given as goal

-- the number is listed under the groups so far
abbrev pub invariant-loop-group : goal.invariant-loop-group
invariant-loop-group l =
    record {
      groups : length l.lists.items ≡ length l.fn.lists.items;
      lists : AreListed l.fn.lists.items l.lists.items (take l.group-index l.group-items) l.number;
      below : (bound : ℕ) → l.number < bound → AreBelow bound l.fn.lists.items → AreBelow bound l.lists.items;
    }
