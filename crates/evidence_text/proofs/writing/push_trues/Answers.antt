use Rattle.std.proofs.Common.{◌∙◌, ap, ◌+◌, [], ◌∷◌, ◌++◌, cond, false, get_or, arith}
use Rattle.std.specs.List.{flat_map}
use Rattle.std.specs.Prelude.{codes}
use Rattle.std.specs.Fmt.{decimal}
use Rattle.evidence_text.proofs.TextLemmas.{trues-step}
use Rattle.evidence_text.proofs.writing.push_trues.Goals as goal

pub loop-at-preserved : goal.loop-at-preserved
loop-at-preserved c =
    c.in_ok-push_if_true.ensures ∙ ap (λ t. t ++ flat_map (λ v. codes " " ++ decimal v) (cond (get_or c.args.witness.now c.loop-at.at false) ((c.loop-at.at + 1) ∷ []) [])) c.loop-at.invariant
    ∙ trues-step c.args.out.now.items c.args.witness.now c.loop-at.at (omega (arith, c.loop-at-test.true, c.len-at-end.ensures))
