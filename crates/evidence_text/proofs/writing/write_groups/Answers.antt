use Rattle.std.proofs.Common.{◌∙◌, ap, ◌++◌}
use Rattle.std.specs.Prelude.{codes}
use Rattle.std.specs.List.{flat_map}
use Rattle.std.specs.Fmt.{decimal}
use Rattle.evidence_text.proofs.TextLemmas.{set_text}
use Rattle.evidence_text.proofs.writing.write_groups.Goals as goal

pub returns : goal.returns
returns c =
    c.in_ok-push_text-2.ensures
    ∙ ap (λ t. t ++ codes " 0\n")
    (c.in_ok-push_groups.ensures ∙ ap (λ t. t ++ flat_map (λ g. codes " " ++ decimal g) c.as_slice.result.now) c.in_ok-push_text.ensures
    ∙ ap (λ set. (c.args.out.now.items ++ c.args.letter.now) ++ flat_map (λ g. codes " " ++ decimal g) set) c.as_slice.ensures.groups)
    ∙ set_text c.args.out.now.items c.args.letter.now c.args.set.now
