use Rattle.evidence_rec.specs.Verdicts.{refusal_by}
use Rattle.evidence_rec.proofs.LineLemmas.{witnesses-stop, witnesses-go}
use Rattle.std.proofs.Common.{rules}
use Rattle.evidence_rec.proofs.witnessing.walk_verdict.Goals as goal

-- the first witness that is refused
pub returns-then-not-is_ok : goal.returns-then-not-is_ok
returns-then-not-is_ok c =
    witnesses-stop c.args.problem.now c.args.set.now c.as_slice-groups.result.now c.args.witnesses.now c.args.line c.loop-at.at c.in_ok-part.part c.at.result.now
    c.in_ok-others.others (refusal_by c.witness_verdict-verdict.result) c.as_slice-groups.ensures.groups c.loop-at-test.true c.at.ensures c.in_ok-others.ensures
    c.in_ok-part.ensures c.witness_verdict-verdict.ensures c.loop-at.invariant (λ none. let ok = c.is_ok.ensures.1 none in let refused = c.if-not-is_ok.true in cc)

pub loop-at-preserved : goal.loop-at-preserved
loop-at-preserved c =
    witnesses-go c.args.problem.now c.args.set.now c.as_slice-groups.result.now c.args.witnesses.now c.args.line c.loop-at.at c.in_ok-part.part c.at.result.now
    c.in_ok-others.others (refusal_by c.witness_verdict-verdict.result) c.as_slice-groups.ensures.groups c.loop-at-test.true c.at.ensures c.in_ok-others.ensures
    c.in_ok-part.ensures c.witness_verdict-verdict.ensures c.loop-at.invariant (let ok = c.if-not-is_ok.false in c.is_ok.ensures.0 (cc))

-- no witness was passed
pub loop-at-init : goal.loop-at-init
loop-at-init c = search rules
