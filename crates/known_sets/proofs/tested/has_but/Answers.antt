use Rattle.std.proofs.Common.{◌≡◌, ◌∙◌, ◌&&◌, ap, sym, eqb, Bool, true, false, not}
use Rattle.std.proofs.lemmas.Bool.{false_from_ne_true, eqb-true, eq-eqb}
use Rattle.gm_base.specs.Sets.{has}
use Rattle.gm_base.proofs.SetLemmas.{has-without}
use Rattle.known_sets.proofs.tested.has_but.Goals as goal

-- another group stands there where it stands in the set
pub returns-then-group-but : goal.returns-then-group-but
returns-then-group-but c =
    let set = c.args.set.now in
    let other : eqb c.args.group c.args.but ≡ false = false_from_ne_true (eqb c.args.group c.args.but) (λ e. c.if-group-but.true (eqb-true c.args.group c.args.but e)) in
    c.contains.ensures ∙ sym (has-without set c.args.but c.args.group ∙ ap (λ (b : Bool). not b && has set c.args.group) other)

-- the one group does not
pub returns-else-group-but : goal.returns-else-group-but
returns-else-group-but c =
    let set = c.args.set.now in
    let same : eqb c.args.group c.args.but ≡ true = eq-eqb c.args.group c.args.but c.if-group-but.false in
    ap not same ∙ sym (has-without set c.args.but c.args.group ∙ ap (λ (b : Bool). not b && has set c.args.group) same)
