use Rattle.std.proofs.Common.{◌∙◌, ap, ◌++◌}
use Rattle.std.specs.Prelude.{codes}
use Rattle.std.specs.List.{flat_map}
use Rattle.std.specs.Fmt.{decimal, signed_decimal}
use Rattle.sat_base.specs.Hints.{ids_of}
use Rattle.evidence_text.proofs.TextLemmas.{step_text}
use Rattle.evidence_text.proofs.writing.write_step.Goals as goal

pub returns : goal.returns
returns c =
    c.in_ok-push_text-3.ensures
    ∙ ap (λ t. t ++ codes " 0\n")
    (c.in_ok-push_ids.ensures
    ∙ ap (λ t. t ++ flat_map (λ n. codes " " ++ decimal n) (ids_of c.args.step.hints))
    (c.in_ok-push_text-2.ensures
    ∙ ap (λ t. t ++ codes " 0")
    (c.in_ok-push_lits.ensures
    ∙ ap (λ t. t ++ flat_map (λ l. codes " " ++ signed_decimal l) c.args.step.lits.now)
    (c.in_ok-push_number.ensures ∙ ap (λ t. t ++ (codes " " ++ decimal c.args.step.id)) c.in_ok-push_text.ensures))))
    ∙ step_text c.args.out.now.items (record { id = c.args.step.id; lits = c.args.step.lits.now; hints = ids_of c.args.step.hints })
