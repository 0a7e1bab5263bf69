use Rattle.std.proofs.Common.{◌||◌, ◌++◌, ◌∷◌, [], not, nat_le, get_or, subst, sym, arith}
use Rattle.gm_base.specs.Sets.{IsGroupSet, has}
use Rattle.edit_session.proofs.WideningLemmas.{ascends-kept}
use Rattle.edit_session.proofs.widening.without_new.Goals as goal

-- what is kept of an ascending list ascends
pub push-requires : goal.push-requires
push-requires c =
    let items = c.as_slice-g-items.result.now in
    let i = c.loop-g.g-index in
    subst (λ rest. IsGroupSet (rest ++ get_or items i 0 ∷ [])) (sym c.loop-g.invariant)
    (ascends-kept (λ g. nat_le g c.args.old_groups || not (has c.args.core.now g)) 0 items i (subst IsGroupSet (sym c.as_slice-g-items.ensures.groups) c.as_slice-g-items.ensures.ascends) (omega arith))
