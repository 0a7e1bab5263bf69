use Rattle.std.proofs.Common.{◌≡◌, ◌∙◌, ◌++◌, ◌∷◌, [], get_or, sym, ap, subst, inl, inr, arith, refl}
use Rattle.std.proofs.lemmas.Bool.{cases_lt}
use Rattle.std.proofs.lemmas.List.{get_or_default}
use Rattle.sat_base.specs.Members.{In}
use Rattle.sat_base.proofs.Members.{In-append_left, In-append_right}
use Rattle.gm_base.specs.declared.index.Placed.{Placed}
use Rattle.model_flips.proofs.repair.add_places.Goals as goal

pub loop-placed-preserved : goal.loop-placed-preserved
loop-placed-preserved c =
    let before = c.loop-placed.places.items in
    let placed = c.places-placed-items.result.now in
    let index = c.loop-placed.placed-index in
    let none : Placed = record { group = 0; at = 0 } in
    let place = (get_or placed index none).at in
    let pushed : c.push.new.self.items ≡ before ++ place ∷ [] = c.in_ok-push.ensures.items in (
      λ k i. subst (In k) (sym pushed) (In-append_left k before (place ∷ []) (c.loop-placed.invariant.0 k i)),
      λ k d lt.
          subst (In (get_or placed k d).at) (sym pushed)
          (elim (cases_lt k index) [
            | inl earlier ↦ In-append_left (get_or placed k d).at before (place ∷ []) (c.loop-placed.invariant.1 k d earlier)
            | inr past ↦
                let here : k ≡ index = omega arith in
                let same : get_or placed k d ≡ get_or placed index none = ap (λ n. get_or placed n d) here ∙ get_or_default placed index d none (omega arith) in
                subst (λ (q : Placed). In q.at (before ++ place ∷ [])) (sym same) (In-append_right place before (place ∷ []) (inl refl))
          ]),
    )

pub returns-clause-adds : goal.returns-clause-adds
returns-clause-adds c = λ at is.
    let (k, lt, there) = c.places-placed-items.ensures.each at is in
    let placed : Placed = record { group = c.args.group; at = at } in
    subst (λ (q : Placed). In q.at c.loop-placed.places.items) there (c.loop-placed.invariant.1 k placed (omega arith))
