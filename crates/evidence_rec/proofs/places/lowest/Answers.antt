use Rattle.std.proofs.Common.{◌==◌, ap, w32}
use Rattle.std.proofs.lemmas.Nat.Bits.{bit_at-trailing_zeros}
use Rattle.evidence_rec.proofs.places.lowest.Goals as goal

pub returns : goal.returns
returns c =
    let h = bit_at-trailing_zeros w32 c.args.bits c.requires c.ranges.bits.fits in
    record { within = h.0; set = ap (λ b. b == 1) h.1; below = λ i lt. ap (λ b. b == 1) (h.2 i lt) }
