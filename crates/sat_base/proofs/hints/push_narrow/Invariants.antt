use Rattle.std.proofs.Common.{◌≡◌, ◌+◌, ◌++◌, ◌<◌, ◌≤◌, ◌^◌, All, length, take}
use Rattle.std.specs.Vec.{vec_len, vec_capacity}
use Rattle.sat_base.proofs.hints.push_narrow.Given as goal

-- there is room for the numbers that are left
abbrev pub invariant-loop-id : goal.invariant-loop-id
invariant-loop-id l =
    record {
      items : l.ids.items ≡ l.fn.ids.items ++ take l.id-index l.more;
      room : vec_len l.ids + length l.more ≤ vec_capacity l.ids + l.id-index;
      small : All (λ n. n < 2 ^ 32) l.more;
    }
