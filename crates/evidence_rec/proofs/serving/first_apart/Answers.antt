use Rattle.std.proofs.Common.{ℕ, Bool, List, ◌+◌, ◌*◌, ◌∙◌, Some, get_or, drop, sym, ap, arith}
use Rattle.std.specs.List.{find}
use Rattle.std.specs.Option.{option_map}
use Rattle.std.proofs.lemmas.List.{at_drop_more}
use Rattle.evidence_rec.specs.declared.places.Block.{Block}
use Rattle.evidence_rec.specs.Places.{block_places, places_of}
use Rattle.evidence_rec.specs.Serving.{is_apart}
use Rattle.evidence_rec.proofs.PlaceLemmas.{block-first, block-without}
use Rattle.evidence_rec.proofs.ServingLemmas.{first-here, first-later}
use Rattle.evidence_rec.proofs.serving.first_apart.Goals as goal

-- the lowest bit that is left is the first place that passes
pub returns-then-bits-gt0 : goal.returns-then-bits-gt0
returns-then-bits-gt0 c =
    let blocks = c.args.blocks.now in
    let i = c.loop-block.block-index in
    let test : ℕ → Bool = is_apart c.args.lists.now c.args.set.now c.args.group in
    let b : Block = get_or blocks i (record { at = 0; bits = 0 }) in
    ap Some c.number_at.ensures
    ∙ sym
    (c.loop-block.invariant ∙ at_drop_more (λ (bs : List Block). find test (places_of bs)) blocks i (record { at = 0; bits = 0 }) c.loop-block-test.true
    ∙ first-here test (block_places b) (places_of (drop (i + 1) blocks)) (32 * b.at + c.lowest.result)
    (block-first b test c.apart_bits-bits.result c.lowest.result c.apart_bits-bits.ensures c.lowest.ensures.within c.lowest.ensures.set c.lowest.ensures.below))

-- no place of the block passes
pub loop-block-preserved : goal.loop-block-preserved
loop-block-preserved c =
    let blocks = c.args.blocks.now in
    let i = c.loop-block.block-index in
    let test : ℕ → Bool = is_apart c.args.lists.now c.args.set.now c.args.group in
    let b : Block = get_or blocks i (record { at = 0; bits = 0 }) in
    c.loop-block.invariant ∙ at_drop_more (λ (bs : List Block). find test (places_of bs)) blocks i (record { at = 0; bits = 0 }) c.loop-block-test.true
    ∙ first-later test (block_places b) (places_of (drop (i + 1) blocks)) (block-without b test c.apart_bits-bits.result c.apart_bits-bits.ensures (omega arith))
