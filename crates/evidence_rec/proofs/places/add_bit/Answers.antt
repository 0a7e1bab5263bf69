use Rattle.std.proofs.Common.{◌+◌, ◌-◌, ◌*◌, ◌%◌, ◌^◌, ◌++◌, ◌∷◌, [], ap, ◌∙◌, arith}
use Rattle.evidence_rec.specs.Places.{block_places}
use Rattle.evidence_rec.proofs.PlaceLemmas.{ascend-begun, places-begun, places-last, last-below}
use Rattle.evidence_rec.proofs.places.add_bit.Goals.{then-count-eq0-via-then-count-eq0, then-count-eq0-via-else-count-eq0+then-index-at}
use Rattle.evidence_rec.proofs.places.add_bit.Goals as goal

-- a block behind the last one
pub returns-then-count-eq0-clause-ascend : goal.returns-then-count-eq0-clause-ascend
returns-then-count-eq0-clause-ascend c =
    ascend-begun c.push_block.result c.args.blocks.now.items c.push_block.new.blocks.items (record { at = c.args.at; bits = 1 * 2 ^ c.args.bit % 2 ^ 32 })
    c.push_block.ensures.ok c.push_block.ensures.err c.requires.ascend
    (λ i d ends.
    elim c.then-count-eq0.branch [
      | then-count-eq0-via-then-count-eq0 w ↦ absurd (omega arith)
      | then-count-eq0-via-else-count-eq0+then-index-at w ↦ last-below c.args.blocks.now.items c.len-count.result c.args.at w.index.result.now (omega arith) w.index.ensures w.if-index-at.true i d ends
    ])

pub returns-then-count-eq0-clause-added : goal.returns-then-count-eq0-clause-added
returns-then-count-eq0-clause-added c =
    places-begun c.push_block.result c.args.at c.args.bit c.args.blocks.now.items c.push_block.new.blocks.items c.requires.bit c.push_block.ensures.ok

-- the last block has the place too
pub returns-clause-added : goal.returns-clause-added
returns-clause-added c =
    places-last c.args.blocks.now.items (c.len-count.result - 1) (32 * c.args.at + c.args.bit) c.in-Some.block c.index-2.result.now (omega arith)
    (c.in-Some.ensures.added ∙ ap (λ b. block_places b ++ (32 * c.args.at + c.args.bit) ∷ []) c.index-2.ensures)
