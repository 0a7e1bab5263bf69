use Rattle.std.proofs.Common.{◌∙◌, ◌&&◌, ap, w32}
use Rattle.std.specs.Int.{bit_not}
use Rattle.evidence_rec.specs.Columns.{is_set}
use Rattle.evidence_rec.proofs.ColumnLemmas.{is_set-both, is_set-not}
use Rattle.evidence_rec.proofs.places.without.Goals as goal

pub returns : goal.returns
returns c = λ i lt.
    is_set-both c.args.bits (bit_not w32 c.args.others) i ∙ ap (λ b. is_set c.args.bits i && b) (is_set-not w32 c.args.others i c.ranges.others.fits lt)
