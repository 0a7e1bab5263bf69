use Rattle.std.proofs.Common.{◌≡◌, ◌+◌, ◌∙◌, ◌∷◌, [], List, Some, arith, sym, ap}
use Rattle.std.specs.Prelude.{ℤ, neg_ℤ, slice_get}
use Rattle.std.proofs.lemmas.Result.{IfOk-weaker}
use Rattle.size_counter.specs.Counter.{at_least, raised, counter}
use Rattle.size_counter.proofs.RangeLemmas.{order-at}
use Rattle.size_counter.proofs.PlaceLemmas.{clause-carries, clause-raises, place-asked}
use Rattle.size_counter.proofs.counter.counter_clause.Goals as goal

pub place_of-place-requires : goal.place_of-place-requires
place_of-place-requires c = place-asked c.args.groups c.args.bound c.args.kind c.args.order.now c.args.at c.requires.within

pub counted_lit-lit-requires-clause-not_background : goal.counted_lit-lit-requires-clause-not_background
counted_lit-lit-requires-clause-not_background c =
    (order-at c.args.groups c.args.order.now c.place_of-place.result.rows c.requires.order c.place_of-place.ensures.row).0

pub counted_lit-lit-requires-clause-in_range : goal.counted_lit-lit-requires-clause-in_range
counted_lit-lit-requires-clause-in_range c =
    let at = order-at c.args.groups c.args.order.now c.place_of-place.result.rows c.requires.order c.place_of-place.ensures.row in
    let high = at.1 in
    let small = c.requires.small in
    omega arith

-- the place says which clause it is
pub returns-then-place : goal.returns-then-place
returns-then-place c =
    let p = c.place_of-place.result in
    IfOk-weaker c.carried.result
    (λ (clause : List ℤ). clause ≡ neg_ℤ (at_least c.args.groups c.args.bound p.rows (p.columns + 1)) ∷ at_least c.args.groups c.args.bound (p.rows + 1) (p.columns + 1) ∷ [])
    (λ (clause : List ℤ). slice_get (counter c.args.groups c.args.bound c.args.kind c.args.order.now) c.args.at ≡ Some clause)
    (λ clause is.
    clause-carries c.args.groups c.args.bound c.args.kind c.args.order.now c.args.at p c.place_of-place.ensures c.if-place.true ∙ ap Some (sym is))
    c.carried.ensures

pub returns-else-place : goal.returns-else-place
returns-else-place c =
    let p = c.place_of-place.result in
    IfOk-weaker c.raised.result
    (λ (clause : List ℤ). clause ≡ raised c.args.groups c.args.bound p.rows p.columns c.counted_lit-lit.result)
    (λ (clause : List ℤ). slice_get (counter c.args.groups c.args.bound c.args.kind c.args.order.now) c.args.at ≡ Some clause)
    (λ clause is.
    clause-raises c.args.groups c.args.bound c.args.kind c.args.order.now c.args.at p c.place_of-place.ensures c.if-place.false
    ∙ ap (λ l. Some (raised c.args.groups c.args.bound p.rows p.columns l)) (sym c.counted_lit-lit.ensures)
    ∙ ap Some (sym is))
    c.raised.ensures
