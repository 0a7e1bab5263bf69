use Rattle.std.proofs.Common.{not, ◌&&◌, sym, ◌∙◌, ap, eqb}
use Rattle.std.proofs.lemmas.Bool.{false_from_ne_true, eqb-true, eq-eqb}
use Rattle.gm_base.specs.Sets.{has}
use Rattle.gm_base.proofs.SetLemmas.{has-without}
use Rattle.evidence_rec.proofs.record.is_another.Goals as goal

-- another group is in the rest where it is in the set
pub returns-then-other-group : goal.returns-then-other-group
returns-then-other-group c =
    let other = c.args.other in
    let group = c.args.group in
    c.contains.ensures
    ∙ sym (has-without c.args.set.now group other
    ∙ ap (λ b. not b && has c.args.set.now other) (false_from_ne_true (eqb other group) (λ e. c.if-other-group.true (eqb-true other group e))))

-- this one is not
pub returns-else-other-group : goal.returns-else-other-group
returns-else-other-group c =
    let other = c.args.other in
    let group = c.args.group in
    let same = eq-eqb other group c.if-other-group.false in
    ap not same ∙ sym (has-without c.args.set.now group other ∙ ap (λ b. not b && has c.args.set.now other) same)
