use Rattle.std.proofs.Common.{◌∙◌, ap, ◌++◌}
use Rattle.std.specs.Prelude.{codes}
use Rattle.std.specs.Fmt.{decimal}
use Rattle.evidence_text.proofs.TextLemmas.{reference_text}
use Rattle.evidence_text.proofs.writing.write_reference.Goals as goal

pub returns : goal.returns
returns c =
    c.in_ok-push_text-2.ensures
    ∙ ap (λ t. t ++ codes "\n")
    (c.in_ok-push_number-2.ensures
    ∙ ap (λ t. t ++ (codes " " ++ decimal c.args.number))
    (c.in_ok-push_number.ensures ∙ ap (λ n. c.push_text.new.out.items ++ (codes " " ++ decimal n)) c.from.ensures
    ∙ ap (λ t. t ++ (codes " " ++ decimal c.args.group)) c.in_ok-push_text.ensures))
    ∙ reference_text c.args.out.now.items c.args.group c.args.number
