use Rattle.std.proofs.Common.{◌+◌, ◌*◌, ◌∙◌, ◌&&◌, sym, ap, arith}
use Rattle.std.proofs.lemmas.List.{take_all}
use Rattle.evidence_rec.specs.Columns.{is_set}
use Rattle.evidence_rec.specs.Serving.{is_apart}
use Rattle.evidence_rec.proofs.ColumnLemmas.{is_set-zero}
use Rattle.evidence_rec.proofs.ServingLemmas.{apart-none, apart-more, apart-nothing}
use Rattle.evidence_rec.proofs.serving.apart_bits.Goals as goal

pub loop-other-init : goal.loop-other-init
loop-other-init c = λ i lt. apart-none (is_set c.args.block.bits i)

-- the next group takes its places away
pub loop-other-preserved : goal.loop-other-preserved
loop-other-preserved c = λ i lt.
    apart-more c.args.lists.now c.args.set.now c.args.group (32 * c.args.block.at + i) c.loop-other.other-index _ (is_set c.loop-other.bits i) (is_set c.args.block.bits i)
    c.loop-other-test.true (c.bits_without-bits.ensures i lt) (c.loop-other.invariant i lt)

-- nothing is left, and no group brings a place back
pub returns-then-bits-eq0 : goal.returns-then-bits-eq0
returns-then-bits-eq0 c = λ i lt.
    is_set-zero i
    ∙ apart-nothing c.args.lists.now c.args.set.now c.args.group (32 * c.args.block.at + i) c.loop-other.other-index (is_set c.args.block.bits i)
    (sym (ap (λ w. is_set w i) c.if-bits-eq0.true ∙ is_set-zero i) ∙ c.loop-other.invariant i lt)

pub returns : goal.returns
returns c = λ i lt.
    c.loop-other.invariant i lt
    ∙ ap (λ gs. is_set c.args.block.bits i && is_apart c.args.lists.now gs c.args.group (32 * c.args.block.at + i)) (take_all c.loop-other.other-index c.args.set.now (omega arith))
