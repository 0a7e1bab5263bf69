use Rattle.std.proofs.Common.{◌≡◌, ◌∙◌, ◌||◌, ap, sym, eqb, Bool, false}
use Rattle.std.proofs.lemmas.Bool.{false_from_ne_true, eqb-true, eq-eqb, or_left}
use Rattle.gm_base.specs.Sets.{has}
use Rattle.evidence_rec.proofs.WithLemmas.{has-with_group}
use Rattle.known_sets.proofs.tested.has_with.Goals as goal

-- the one group stands there
pub returns-then-group-more : goal.returns-then-group-more
returns-then-group-more c =
    eq-eqb c.args.group c.args.more c.if-group-more.true
    ∙ sym (has-with_group c.args.set.now c.args.more c.args.group
    ∙ or_left (eqb c.args.more c.args.group) (has c.args.set.now c.args.group) (eq-eqb c.args.more c.args.group (sym c.if-group-more.true)))

-- another one where it stands in the set
pub returns-else-group-more : goal.returns-else-group-more
returns-else-group-more c =
    let set = c.args.set.now in
    let other : eqb c.args.more c.args.group ≡ false =
    false_from_ne_true (eqb c.args.more c.args.group) (λ e. c.if-group-more.false (sym (eqb-true c.args.more c.args.group e))) in
    c.contains.ensures ∙ sym (has-with_group set c.args.more c.args.group ∙ ap (λ (e : Bool). e || has set c.args.group) other)
