use Rattle.std.proofs.Common.{◌≡◌, ◌-◌, ◌^◌, ◌<◌, length, map, take}
use Rattle.std.specs.Vec.{vec_len, vec_capacity}
use Rattle.gm_ports.proofs.kept_name.KeptName.keep.Given as goal

-- a byte is kept for each that was walked over
abbrev pub invariant-bytes : goal.invariant-bytes
invariant-bytes l = record {
  kept : map (λ byte. byte.value) l.self-inside.bytes.items ≡ take l.byte-index l.byte-items;
  many : vec_len l.self-inside.bytes ≡ l.byte-index;
  room : vec_capacity l.self-inside.bytes ≡ 2 ^ 63 - 1;
  short : length l.byte-items < 2 ^ 63;
}
