use Rattle.std.proofs.Common.{◌+◌, ◌∙◌, ap}
use Rattle.evidence_rec.specs.Verdicts.{refusal_by}
use Rattle.evidence_rec.proofs.LineLemmas.{refutations-stop, refutations-go}
use Rattle.evidence_rec.proofs.refutation.refutations_verdict.Goals as goal

-- the first refutation that is refused
pub returns-then-not-is_ok-clause-answer : goal.returns-then-not-is_ok-clause-answer
returns-then-not-is_ok-clause-answer c =
    refutations-stop c.args.problem.now c.args.earlier.now c.args.set.now c.as_slice-groups.result.now c.args.proofs.now c.args.first c.loop-at.line c.loop-at.at c.at-refutation.result.now
    (refusal_by c.in_ok-verdict.verdict) c.as_slice-groups.ensures.groups c.loop-at-test.true c.at-refutation.ensures c.in_ok-verdict.ensures.answer
    c.loop-at.invariant.answer (λ none. let ok = c.is_ok.ensures.1 none in let refused = c.if-not-is_ok.true in cc)

pub loop-at-preserved : goal.loop-at-preserved
loop-at-preserved c = record {
  begins = c.in_ok-verdict.ensures.begins;
  answer =
      refutations-go c.args.problem.now c.args.earlier.now c.args.set.now c.as_slice-groups.result.now c.args.proofs.now c.args.first c.loop-at.line c.loop-at.at c.at-refutation.result.now
      (refusal_by c.in_ok-verdict.verdict) c.as_slice-groups.ensures.groups c.loop-at-test.true c.at-refutation.ensures c.in_ok-verdict.ensures.answer
      c.loop-at.invariant.answer c.in_ok-line.line
      (c.in_ok-line.ensures ∙ ap (λ n. n + 1) (c.in_ok-line_behind.ensures ∙ ap (λ n. c.loop-at.line + n) c.len.ensures))
      (let ok = c.if-not-is_ok.false in c.is_ok.ensures.0 (cc));
}
