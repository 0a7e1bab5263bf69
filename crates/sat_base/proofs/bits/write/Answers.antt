use Rattle.std.proofs.Common.{◌≡◌, ◌<◌, ◌/◌, ◌%◌, ◌∙◌, ℕ, length, ap, arith}
use Rattle.std.specs.Prelude.{slice_index, slice_set}
use Rattle.std.proofs.lemmas.List.{get_or_read}
use Rattle.sat_base.specs.Bits.{with_bit}
use Rattle.sat_base.proofs.bits.write.Goals as goal

-- the bit of the place is written in its word
pub returns : goal.returns
returns c =
    let words = c.args.words.now.items in
    let at = c.args.at in
    let within : at / 64 < length words = omega (arith, c.requires) in
    let word : c.index.result.now ≡ slice_index words (at / 64) = get_or_read words (at / 64) c.index.result.now within c.index.ensures 0 in
    ap (slice_set words (at / 64)) (c.with_bit.ensures ∙ ap (λ (w : ℕ). with_bit w (at % 64) c.args.value) word)
