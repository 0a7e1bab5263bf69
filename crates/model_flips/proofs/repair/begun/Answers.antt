use Rattle.std.proofs.Common.{◌≡◌, ℕ, ◌∷◌, [], true, take, get_or, eqb, sym, subst, inl, inr, arith}
use Rattle.std.specs.Prelude.{Option, Some, IsSomeAnd, slice_get}
use Rattle.std.proofs.lemmas.Bool.{eqb-true}
use Rattle.std.proofs.lemmas.List.{take_more, take_all}
use Rattle.sat_base.specs.Members.{In}
use Rattle.sat_base.proofs.Members.{In-append_cases, any_from}
use Rattle.gm_base.specs.declared.clause.Clause.{Clause}
use Rattle.gm_base.specs.Sets.{has}
use Rattle.model_flips.specs.Repair.{IsFalseAmong, AreFalse}
use Rattle.model_flips.proofs.RepairLemmas.{AreFalse-begun}
use Rattle.model_flips.proofs.repair.begun.Goals as goal

pub loop-group-preserved : goal.loop-group-preserved
loop-group-preserved c = λ at clause there i.
    let groups = c.as_slice-group-items.result.now in
    let index = c.loop-group.group-index in
    let group = get_or groups index 0 in
    elim (In-append_cases clause.group (take index groups) (group ∷ []) (subst (In clause.group) (take_more groups index 0 (omega arith)) i)) [
      | inl earlier ↦ c.in_ok-add_places.ensures.keeps at (c.loop-group.invariant at clause there earlier)
      | inr (inl same) ↦ c.in_ok-add_places.ensures.adds at (subst (λ (o : Option Clause). IsSomeAnd o (λ e. e.group ≡ group)) (sym there) same)
      | inr (inr none) ↦ absurd none
    ]

-- the clauses of all groups left out are listed
pub returns-clause-whole : goal.returns-clause-whole
returns-clause-whole c = λ before.
    let p = c.args.problem.now in
    let out = c.args.out.now in
    let w = c.args.assign.now in
    let falsified = c.add_false.new.falsified.items in
    let places = c.loop-group.places.items in
    let each : (at : ℕ) (e : Clause) → slice_get p.clauses at ≡ Some e → has out e.group ≡ true → In at places =
    λ at e there was_out.
    let (g, i, is) = any_from (λ k. eqb k e.group) out was_out in
    let inside = subst (λ k. In k out) (eqb-true g e.group is) i in
    c.loop-group.invariant at e there (subst (In e.group) (sym (take_all c.loop-group.group-index c.as_slice-group-items.result.now (omega arith))) (subst (In e.group) (sym c.as_slice-group-items.ensures.groups) inside)) in
    subst (λ v. AreFalse p v falsified) (sym c.in_ok-copy.ensures)
    (AreFalse-begun p out w places falsified c.groups-small.ensures.well_formed each (subst (λ ps. IsFalseAmong p w ps falsified) c.deref.ensures.value c.in_ok-add_false.ensures.adds) before)
