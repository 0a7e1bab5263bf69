use Rattle.std.proofs.Common.{◌∙◌, ap, ◌++◌}
use Rattle.std.specs.Prelude.{codes}
use Rattle.std.specs.List.{flat_map}
use Rattle.std.specs.Fmt.{decimal}
use Rattle.evidence_text.specs.Text.{trues_from}
use Rattle.evidence_text.proofs.TextLemmas.{witness_text}
use Rattle.evidence_text.proofs.writing.write_witness.Goals as goal

pub returns : goal.returns
returns c =
    c.in_ok-push_text-2.ensures
    ∙ ap (λ t. t ++ codes " 0\n")
    (c.in_ok-push_trues.ensures
    ∙ ap (λ t. t ++ flat_map (λ n. codes " " ++ decimal n) (trues_from 1 c.args.witness.now))
    (c.in_ok-push_number.ensures ∙ ap (λ n. c.push_text.new.out.items ++ (codes " " ++ decimal n)) c.from.ensures
    ∙ ap (λ t. t ++ (codes " " ++ decimal c.args.group)) c.in_ok-push_text.ensures))
    ∙ witness_text c.args.out.now.items c.args.group c.args.witness.now
