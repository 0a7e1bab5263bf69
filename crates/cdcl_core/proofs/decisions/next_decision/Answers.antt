use Rattle.std.proofs.Common.{◌≡◌, arith, subst, sym, ◌∙◌, inl, inr, Some}
use Rattle.std.specs.Prelude.{true, false}
use Rattle.std.proofs.lemmas.List.{take_all}
use Rattle.sat_base.specs.Members.{In}
use Rattle.sat_base.specs.Units.{AllTrue, IsValue}
use Rattle.sat_base.proofs.DatabaseLemmas.{get_in, In-take_more}
use Rattle.trail_book.specs.Trail.{trues}
use Rattle.cdcl_core.proofs.decisions.next_decision.Goals as goal

pub returns-in-None-clause-next : goal.returns-in-None-clause-next
returns-in-None-clause-next c =
    let lit = c.index-assumed-reached.result in (
      subst (λ m. In m c.args.assumed.now) (sym c.index-assumed-reached.is) (get_in c.args.assumed.now c.loop-reached.reached lit (omega arith)),
      subst (IsValue (trues c.args.trail.now.entries) lit) c.in-None.is c.value.ensures,
    )

pub returns-in-Some-false-clause-next : goal.returns-in-Some-false-clause-next
returns-in-Some-false-clause-next c =
    let lit = c.index-assumed-reached.result in (
      subst (λ m. In m c.args.assumed.now) (sym c.index-assumed-reached.is) (get_in c.args.assumed.now c.loop-reached.reached lit (omega arith)),
      subst (IsValue (trues c.args.trail.now.entries) lit) (let e : c.value.result ≡ Some false = cc in e) c.value.ensures,
    )

pub loop-reached-preserved : goal.loop-reached-preserved
loop-reached-preserved c =
    let lit = c.index-assumed-reached.result in
    let t = trues c.args.trail.now.entries in
    let here = subst (IsValue t lit) (let e : c.value.result ≡ Some true = cc in e) c.value.ensures in
    λ l i. elim (In-take_more c.args.assumed.now c.loop-reached.reached lit l (omega arith) i) [
      | inl old ↦ c.loop-reached.invariant l old
      | inr same ↦ subst (λ m. In m t) (c.index-assumed-reached.is ∙ sym same) here
    ]

pub returns-in-Some-clause-next : goal.returns-in-Some-clause-next
returns-in-Some-clause-next c =
    let picked = c.in-Some.ensures.some in
    (subst (AllTrue (trues c.args.trail.now.entries)) (take_all c.loop-reached.reached c.args.assumed.now (omega arith)) c.loop-reached.invariant, picked.0, picked.1, c.in-Some.ensures.positive, c.in-Some.ensures.touched)

pub returns-in-None-choice-clause-next : goal.returns-in-None-choice-clause-next
returns-in-None-choice-clause-next c =
    (subst (AllTrue (trues c.args.trail.now.entries)) (take_all c.loop-reached.reached c.args.assumed.now (omega arith)) c.loop-reached.invariant, c.in-None-choice.ensures.none)
