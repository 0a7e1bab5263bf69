use Rattle.std.proofs.Common.{◌≡◌, ◌∙◌, ℕ, ◌+◌, Vec, Global, ap, ◌++◌, ◌∷◌, [], get_or, take, sym, subst, inl, inr, arith, refl}
use Rattle.std.proofs.lemmas.List.{take_more}
use Rattle.std.proofs.lemmas.Bool.{false≢true}
use Rattle.sat_base.specs.Members.{In}
use Rattle.sat_base.proofs.Members.{In-append_left, In-append_right}
use Rattle.model_flips.specs.Repair.{IsFalseAmong}
use Rattle.model_flips.proofs.RepairLemmas.{IsFalseAmong-next}
use Rattle.model_flips.proofs.repair.add_false.Goals.{then-is_false+in_ok-push, else-is_false}
use Rattle.model_flips.proofs.repair.add_false.Goals as goal

pub loop-place-preserved : goal.loop-place-preserved
loop-place-preserved c =
    let p = c.args.problem.now in
    let w = c.args.values.now in
    let places = c.args.places.now in
    let at = c.loop-place.place-index in
    let place = get_or places at 0 in
    let before = c.loop-place.falsified.items in
    elim c.if-is_false.branch [
      | then-is_false+in_ok-push t ↦
          let after = before ++ place ∷ [] in
          let pushed : c.if-is_false.falsified.items ≡ after = ap (λ (v : Vec ℕ Global). v.items) t.falsified-is ∙ t.in_ok-push.ensures.items in
          let keeps : (k : ℕ) → In k before → In k after = λ k i. In-append_left k before (place ∷ []) i in (
            λ k i. subst (In k) (sym pushed) (keeps k (c.loop-place.invariant.0 k i)),
            subst (IsFalseAmong p w (take (at + 1) places)) (sym pushed)
                (subst (λ ps. IsFalseAmong p w ps after) (sym (take_more places at 0 (omega arith)))
                (IsFalseAmong-next p w (take at places) before after place c.loop-place.invariant.1 keeps (λ clause there. inr (In-append_right place before (place ∷ []) (inl refl))))),
          )
      | else-is_false e ↦
          let same : c.if-is_false.falsified.items ≡ before = ap (λ (v : Vec ℕ Global). v.items) e.falsified-is in (
            λ k i. subst (In k) (sym same) (c.loop-place.invariant.0 k i),
            subst (IsFalseAmong p w (take (at + 1) places)) (sym same)
                (subst (λ ps. IsFalseAmong p w ps before) (sym (take_more places at 0 (omega arith)))
                (IsFalseAmong-next p w (take at places) before before place c.loop-place.invariant.1 (λ k i. i)
                (λ clause there.
                elim (c.is_false.ensures clause there) [
                  | inl made ↦ inl made
                  | inr clash ↦ absurd (false≢true (sym e.if-is_false.false ∙ clash))
                ]))),
          )
    ]
