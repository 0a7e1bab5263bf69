use Rattle.std.proofs.Common.{not, ◌∙◌, sym, ap, eqb}
use Rattle.std.proofs.lemmas.Bool.{and_parts}
use Rattle.gm_base.specs.Sets.{has}
use Rattle.gm_base.proofs.SetLemmas.{has-without}
use Rattle.evidence_rec.proofs.oracle.Oracle.ask_without.Goals as goal

-- what is left of a set of the problem's groups is one
pub ask-requires : goal.ask-requires
ask-requires g c h i =
    let set = c.args.set.now in
    c.requires h (and_parts (not (eqb h c.args.group)) (has set h) (sym (has-without set c.args.group h) ∙ sym (ap (λ r. has r h) c.in_ok-rest.ensures) ∙ i)).1
