use Rattle.std.proofs.Common.{◌&&◌, sym, ap, ◌∙◌, subst, eqb}
use Rattle.std.proofs.lemmas.Bool.{eq-eqb, ne_eqb}
use Rattle.map_core.specs.Core.{is_told}
use Rattle.map_core.specs.Tallies.{Tallies}
use Rattle.map_core.proofs.Tallies.{tally-told}
use Rattle.map_core.proofs.tally.is_told.Goals as goal

-- where each group is met, the second count decides
pub returns-then-tally-eq0 : goal.returns-then-tally-eq0
returns-then-tally-eq0 c = λ groups sets tally.
    let t = c.args.tally.now in
    ap (λ b. b && eqb t.carriers 0) (sym (eq-eqb t.unmet 0 c.if-tally-eq0.true))
    ∙ tally-told groups sets t (subst (λ g. Tallies g groups sets t) c.in-Roles.is tally)
    ∙ ap (λ g. is_told g groups sets) (sym c.in-Roles.is)

-- a group that is in no set
pub returns-else-tally-eq0 : goal.returns-else-tally-eq0
returns-else-tally-eq0 c = λ groups sets tally.
    let t = c.args.tally.now in
    let some = ne_eqb t.unmet 0 c.if-tally-eq0.false in
    some ∙ ap (λ b. b && eqb t.carriers 0) (sym some)
    ∙ tally-told groups sets t (subst (λ g. Tallies g groups sets t) c.in-Roles.is tally)
    ∙ ap (λ g. is_told g groups sets) (sym c.in-Roles.is)
