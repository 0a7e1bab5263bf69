use Rattle.std.proofs.Common.{◌≡◌, ◌<◌, ◌+◌, ◌∙◌, sym, ap, subst, arith, length, get_or, drop, ◌++◌, ◌∷◌, []}
use Rattle.gm_base.specs.Sets.{IsGroupSet, AscendsAbove, complement}
use Rattle.gm_base.proofs.SetLemmas.{Merged, Merged-start, Merged-met, Merged-passed, ahead-end, ahead-passed, IsGroupSet-complement}
use Rattle.gm_base.proofs.group_set.GroupSet.complement.Goals as goal
use Rattle.gm_base.proofs.group_set.GroupSet.complement.Goals.{then-at-len+then-index-g, else-at-len+in_ok-push, else-at-len-via-then-at-len+else-index-g, else-at-len-via-else-at-len}

pub loop-i-init : goal.loop-i-init
loop-i-init c = Merged-start c.args.self.now c.new-rest.result.items (subst IsGroupSet c.self.view_is c.self.invariant) c.new-rest.ensures.items

pub loop-i-preserved : goal.loop-i-preserved
loop-i-preserved c =
    let set = c.args.self.now in
    let old = c.loop-i.rest.items in
    let new = c.if-at-len.rest.items in
    let i = c.loop-i.i in
    let at = c.loop-i.at in
    elim c.if-at-len.branch [
      | then-at-len+then-index-g w ↦
          let d = w.index.result.now in
          let within : at < length set = omega (arith, ap length c.self.view_is) in
          let met : get_or set at d ≡ i + 1 = ap (λ s. get_or s at d) (sym c.self.view_is) ∙ sym w.index.ensures ∙ w.if-index-g.true in
          subst (Merged set new (i + 1)) (sym w.at-is) (Merged-met set old new i at d c.loop-i.invariant within met (ap (λ v. v.items) w.rest-is))
      | else-at-len+in_ok-push w ↦
          let pushed : new ≡ old ++ (i + 1) ∷ [] = cc (w.in_ok-push.ensures.items, w.rest-is) in
          let passed = λ (ahead : AscendsAbove (i + 1) (drop at set)).
          subst (Merged set new (i + 1)) (sym w.at-is) (Merged-passed set old new i at c.loop-i.invariant ahead pushed) in
          elim w.else-at-len.branch [
            | else-at-len-via-then-at-len+else-index-g w' ↦
                let d = w'.index.result.now in
                let within : at < length set = omega (arith, ap length c.self.view_is) in
                let read : get_or set at d ≡ d = ap (λ s. get_or s at d) (sym c.self.view_is) ∙ sym w'.index.ensures in
                passed (ahead-passed set i at d within c.loop-i.invariant.ahead (λ e. w'.if-index-g.false (sym read ∙ e)))
            | else-at-len-via-else-at-len w' ↦
                passed (ahead-end set i at (omega (arith, ap length c.self.view_is)))
          ]
    ]

pub invariant_of-result : goal.invariant_of-result
invariant_of-result c = IsGroupSet-complement c.loop-i.i c.args.self.now c.loop-i.rest.items c.loop-i.invariant.done

pub returns : goal.returns
returns c = c.loop-i.invariant.done ∙ ap (λ n. complement n c.args.self.now) (omega arith)
