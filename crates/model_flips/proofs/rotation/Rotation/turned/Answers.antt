use Rattle.std.proofs.Common.{◌≡◌, ◌⊎◌, ◌-◌, ℕ, true, false, not, List, Option, get_or, inl, inr, sym, subst}
use Rattle.std.specs.Prelude.{IfSome}
use Rattle.gm_base.specs.Sets.{has}
use Rattle.gm_base.specs.Index.{group_true}
use Rattle.sat_base.specs.Members.{In}
use Rattle.model_flips.specs.Rotation.{HasLost}
use Rattle.model_flips.proofs.RotationLemmas.{Satisfies-turned}
use Rattle.model_flips.proofs.rotation.Rotation.turned.Goals as goal

-- what was looked at are the clauses of the variable and of the groups left out
pub returns : goal.returns
returns c = λ listing before.
    let p = c.args.problem.now in
    let v = c.in_ok-values.values in
    let out = c.in-Some.out in
    let left = c.in_ok-left.left in
    let lost = subst (λ (o : Option (List ℕ)). IfSome o (λ found. HasLost p v left found c.of.result.now)) c.in-Some.is c.in_ok-out.ensures in
    let regained : (g : ℕ) → has c.args.out.now g ≡ true → (has out g ≡ true) ⊎ (group_true p.clauses v g ≡ true) =
    λ g was. elim (c.in_ok-left.ensures g was) [
      | inl there ↦ inl (lost.keeps g there)
      | inr holds ↦ inr holds
    ] in
    Satisfies-turned p c.args.self.now c.args.out.now out c.args.assign.now v c.args.var (not (get_or c.args.assign.now (c.args.var - 1) false))
    c.groups-small.ensures.well_formed c.requires.not_zero c.in_ok-values.ensures c.as_slice-groups.ensures.ascends regained
    (λ at clause listed_there. lost.lost at clause (subst (In at) (sym c.of.ensures) listed_there))
    listing before
