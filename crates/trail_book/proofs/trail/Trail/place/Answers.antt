use Rattle.std.proofs.Common.{◌<◌, ◌-◌, length, arith, subst, sym}
use Rattle.std.specs.Prelude.{pos, reverse}
use Rattle.std.proofs.lemmas.List.{get_or_read}
use Rattle.sat_base.specs.Units.{HasValue}
use Rattle.trail_book.specs.Trail.{Trail, trues, IsPlace}
use Rattle.trail_book.specs.Tables.{trail_of}
use Rattle.trail_book.proofs.PlaceLemmas.{var_is_literal}
use Rattle.trail_book.proofs.SlotLemmas.{place_found}
use Rattle.trail_book.proofs.trail.Trail.place.Goals as goal

-- a variable with a value is one of the trail's
pub overflow_sub-var : goal.overflow_sub-var
overflow_sub-var c =
    let has = subst (λ (t : Trail). HasValue (trues t.entries) (pos c.args.var)) (sym c.self.view_is) c.requires in
    let is = var_is_literal c.self.inside.vars (trail_of c.self.inside).entries c.args.var c.self.invariant.trail has in
    omega (arith, is.not_zero)

-- and the table has a row for each of them
pub index-requires : goal.index-requires
index-requires c =
    let has = subst (λ (t : Trail). HasValue (trues t.entries) (pos c.args.var)) (sym c.self.view_is) c.requires in
    let is = var_is_literal c.self.inside.vars (trail_of c.self.inside).entries c.args.var c.self.invariant.trail has in
    grind (arith, is.not_zero, is.in_range, c.self.invariant.one_place_each)

-- the table has the place of each variable with a value
pub returns : goal.returns
returns c =
    let es = (trail_of c.self.inside).entries in
    let has = subst (λ (t : Trail). HasValue (trues t.entries) (pos c.args.var)) (sym c.self.view_is) c.requires in
    let is = var_is_literal c.self.inside.vars es c.args.var c.self.invariant.trail has in
    let places = c.self.inside.places.items in
    let within : c.args.var - 1 < length places = omega (arith, is.not_zero, is.in_range, c.self.invariant.one_place_each) in
    let read = get_or_read places (c.args.var - 1) c.index.result.now within c.index.ensures 0 in
    subst (λ (t : Trail). IsPlace t.entries c.args.var c.index.result.now) c.self.view_is
    (subst (IsPlace es c.args.var) (sym read) (place_found places (reverse c.self.inside.slots.items) c.args.var c.self.invariant.slots has))
