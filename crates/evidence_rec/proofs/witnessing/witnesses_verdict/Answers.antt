use Rattle.std.proofs.Common.{List, Bool, sym, subst}
use Rattle.evidence_rec.specs.Columns.{IsWitnessAt}
use Rattle.evidence_rec.proofs.ColumnLemmas.{refusal-none}
use Rattle.evidence_rec.proofs.witnessing.witnesses_verdict.Goals as goal

-- each witness satisfies what it has to
pub returns-then-branch-clause-answer : goal.returns-then-branch-clause-answer
returns-then-branch-clause-answer c =
    sym
    (refusal-none c.args.problem.now c.args.set.now c.args.line c.args.set.now c.args.witnesses.now c.requires.shaped
    (λ at lt.
    subst (λ (ws : List (List Bool)). IsWitnessAt c.args.problem.now c.args.set.now ws at) c.as_slice.ensures
    (c.in_ok-witnesses_hold.ensures (let yes = c.if-branch.true in cc) at lt)))
