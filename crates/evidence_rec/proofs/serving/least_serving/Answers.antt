use Rattle.std.proofs.Common.{sym, ◌∙◌}
use Rattle.evidence_rec.proofs.ServingLemmas.{least-here, least-later}
use Rattle.evidence_rec.proofs.serving.least_serving.Goals as goal

-- the record at this place serves
pub returns-then-is_inside : goal.returns-then-is_inside
returns-then-is_inside c =
    sym
    (c.loop-at.invariant
    ∙ least-here c.args.earlier.now c.args.set.now c.args.group c.loop-at.at c.index-earlier-at.result c.loop-at-test.true (sym c.index-earlier-at.is) (sym c.is_inside.ensures ∙ c.if-is_inside.true))

-- it does not, so those behind it tell
pub loop-at-preserved : goal.loop-at-preserved
loop-at-preserved c =
    c.loop-at.invariant
    ∙ least-later c.args.earlier.now c.args.set.now c.args.group c.loop-at.at c.index-earlier-at.result c.loop-at-test.true (sym c.index-earlier-at.is) (sym c.is_inside.ensures ∙ c.if-is_inside.false)
