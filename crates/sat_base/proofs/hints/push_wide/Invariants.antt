use Rattle.std.proofs.Common.{◌≡◌, ◌+◌, ◌++◌, ◌≤◌, length, take}
use Rattle.std.specs.Vec.{vec_len, vec_capacity}
use Rattle.sat_base.proofs.hints.push_wide.Given as goal

-- there is room for the numbers that are left
abbrev pub invariant-loop-id : goal.invariant-loop-id
invariant-loop-id l =
    record {
      items : l.ids.items ≡ l.fn.ids.items ++ take l.id-index l.more;
      room : vec_len l.ids + length l.more ≤ vec_capacity l.ids + l.id-index;
    }
