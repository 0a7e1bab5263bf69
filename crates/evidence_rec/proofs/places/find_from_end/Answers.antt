use Rattle.evidence_rec.proofs.PlaceLemmas.{none-behind}
use Rattle.evidence_rec.proofs.places.find_from_end.Goals as goal

-- the last block comes before it
pub returns-then-blocks-last-clause-none : goal.returns-then-blocks-last-clause-none
returns-then-blocks-last-clause-none c = none-behind c.args.blocks.now c.args.at (record { at = 0; bits = 0 }) c.requires.ascend c.requires.some c.if-blocks-last.true
