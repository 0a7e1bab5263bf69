use Rattle.std.proofs.Common.{◌≡◌, ◌≤◌, true, length, sym, ap, subst, arith}
use Rattle.std.proofs.lemmas.Bool.{leb-true}
use Rattle.power_map.specs.Unsettled.{leaves}
use Rattle.power_map.proofs.UnsettledLemmas.{has_other}
use Rattle.power_map.proofs.unsettled.settles_none.Goals as goal

-- of two groups one is another than any
pub returns-in-Down : goal.returns-in-Down
returns-in-Down c = λ two g.
    let size = ap length c.as_slice.ensures.groups in
    let low : 2 ≤ length c.as_slice.result.now = leb-true 2 (length c.as_slice.result.now) two in
    subst (λ s. leaves s c.args.set.now g ≡ true) (sym c.in-Down.is) (has_other g c.args.set.now c.as_slice.ensures.ascends (omega arith))
