use Rattle.std.proofs.Common.{ℕ, ◌+◌, ◌*◌, ◌++◌, ◌∷◌, [], ap, sym, ◌∙◌}
use Rattle.evidence_rec.specs.Places.{block_places}
use Rattle.evidence_rec.proofs.PlaceLemmas.{block-more}
use Rattle.evidence_rec.proofs.places.with_bit.Goals as goal

-- the bit is above all others, so its place comes last
pub returns-clause-added : goal.returns-clause-added
returns-clause-added c =
    block-more c.args.at c.args.block.bits c.args.bit c.requires c.if-block-bit-ne0.false
    ∙ ap (λ (n : ℕ). block_places (record { at = n; bits = c.args.block.bits }) ++ (32 * c.args.at + c.args.bit) ∷ []) (sym c.if-block-at.false)
