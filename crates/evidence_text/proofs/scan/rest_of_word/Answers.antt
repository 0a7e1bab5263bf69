use Rattle.evidence_text.proofs.WordLemmas.{value-step, place-step}
use Rattle.evidence_text.proofs.scan.rest_of_word.Goals as goal

pub loop-at-preserved : goal.loop-at-preserved
loop-at-preserved c =
    record {
      place = place-step c.args.line.now c.args.from c.loop-at.at c.loop-at-test.true c.if-byte-eq32.false c.loop-at.invariant.place;
      value =
          value-step c.args.line.now c.args.from c.loop-at.at c.args.before c.loop-at.value _ c.loop-at-test.true c.if-byte-eq32.false
          c.with_digit-value.ensures c.loop-at.invariant.value;
    }
