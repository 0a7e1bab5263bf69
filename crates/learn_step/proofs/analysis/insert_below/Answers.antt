use Rattle.std.proofs.Common.{◌≡◌, ◌⊎◌, ◌<◌, ◌≤◌, ℕ, List, arith, subst, sym, inl, inr}
use Rattle.std.specs.Prelude.{ℤ, pos}
use Rattle.sat_base.specs.Members.{In}
use Rattle.sat_base.specs.Units.{HasValue}
use Rattle.sat_base.specs.Work.{HasMore}
use Rattle.sat_base.proofs.DatabaseLemmas.{get_in}
use Rattle.trail_book.specs.Trail.{trues, IsPlace}
use Rattle.learn_step.proofs.PlaceLemmas.{var_value, places_none, places_more, places_all}
use Rattle.learn_step.proofs.analysis.insert_below.Goals as goal
use Rattle.learn_step.proofs.analysis.insert_below.Goals.{then-place-below+in_ok-insert, else-place-below}

pub place-place-requires : goal.place-place-requires
place-place-requires c =
    let l = c.lit-item.result in
    let here : In l c.args.lits.now = subst (λ (m : ℤ). In m c.args.lits.now) (sym c.lit-item.is) (get_in c.args.lits.now c.loop-lit.lit-index l (omega arith)) in
    subst (λ (v : ℕ). HasValue (trues c.args.trail.now.entries) (pos v)) (sym c.var.ensures.same) (var_value (trues c.args.trail.now.entries) l (c.requires l here))

pub loop-lit-init : goal.loop-lit-init
loop-lit-init c = places_none c.args.trail.now.entries c.args.below c.args.places.now

pub loop-lit-preserved : goal.loop-lit-preserved
loop-lit-preserved c =
    let place = c.place-place.result in
    let choice : ((place < c.args.below) × HasMore c.loop-lit.places c.if-place-below.places place) ⊎ ((c.args.below ≤ place) × (c.loop-lit.places ≡ c.if-place-below.places)) =
    elim c.if-place-below.branch [
      | then-place-below+in_ok-insert w ↦
          inl (
            w.if-place-below.true,
            subst (λ (new : List ℕ). HasMore c.loop-lit.places new place) (sym w.places-is)
                (subst (HasMore c.loop-lit.places w.insert.new.self) (let same : w.from.result ≡ place = grind arith in same) w.in_ok-insert.ensures.ok),
          )
      | else-place-below w ↦ inr (omega arith, sym w.places-is)
    ] in
    places_more c.args.trail.now.entries c.args.lits.now c.args.below c.loop-lit.lit-index place c.args.places.now c.loop-lit.places c.if-place-below.places c.lit-item.result (omega arith) c.lit-item.is
    (subst (λ (v : ℕ). IsPlace c.args.trail.now.entries v place) c.var.ensures.same c.place-place.ensures) choice c.loop-lit.invariant

pub returns : goal.returns
returns c = places_all c.args.trail.now.entries c.args.lits.now c.args.below c.loop-lit.lit-index c.args.places.now c.loop-lit.places (omega arith) c.loop-lit.invariant
