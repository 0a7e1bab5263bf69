use Rattle.std.proofs.Common.{◌++◌, ◌∷◌, [], take, sym, subst, arith}
use Rattle.std.proofs.lemmas.List.{take_more}
use Rattle.sat_base.specs.Members.{In}
use Rattle.model_flips.specs.Rotation.{listed}
use Rattle.model_flips.proofs.RotationLemmas.{IsListed, IsListed-next}
use Rattle.model_flips.proofs.rotation.list_clause.Goals as goal

pub loop-lit-init : goal.loop-lit-init
loop-lit-init c = record { rows = c.requires.rows; keeps = λ var at h. h; lists = λ lit none. absurd none }

pub loop-lit-preserved : goal.loop-lit-preserved
loop-lit-preserved c =
    let lits = c.args.lits.now in
    let at = c.loop-lit.lit-index in
    let lit = c.lit-item.result in
    let new = c.list_under.new.places.items in
    subst (IsListed c.args.places.now.items new c.args.vars c.args.place) (sym (take_more lits at lit (omega arith)))
    (subst (λ l. IsListed c.args.places.now.items new c.args.vars c.args.place (take at lits ++ l ∷ [])) c.lit-item.is
    (IsListed-next c.args.places.now.items c.loop-lit.places.items new c.args.vars c.args.place (take at lits) lit c.loop-lit.invariant c.in_ok-list_under.ensures.rows c.in_ok-list_under.ensures.keeps
    (subst (λ v. In c.args.place (listed new v)) c.var.ensures.same c.in_ok-list_under.ensures.lists)))
