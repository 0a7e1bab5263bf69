use Rattle.std.proofs.Common.{◌≡◌, ◌<◌, ◌-◌, ◌∷◌, ◌∙◌, ℕ, List, length, set, arith, ap, subst, sym, refl, length-set}
use Rattle.std.specs.Prelude.{reverse}
use Rattle.sat_base.specs.Literals.{var_of, IsLiteral}
use Rattle.sat_base.specs.Units.{IsUnset}
use Rattle.trail_book.specs.declared.slot.Slot.{Slot}
use Rattle.trail_book.specs.declared.value.Value.{Value}
use Rattle.trail_book.specs.Trail.{Trail, trues, top, IsTrail}
use Rattle.trail_book.specs.Slots.{entry_of, entries_of, AreKept}
use Rattle.trail_book.specs.Values.{value_by, AreValues}
use Rattle.trail_book.specs.Tables.{AreWaiting}
use Rattle.trail_book.proofs.SlotLemmas.{push_seen, push_room, slots_room, kept_push}
use Rattle.trail_book.proofs.ValueLemmas.{values_push}
use Rattle.trail_book.proofs.WaitLemmas.{waiting_push}
use Rattle.lit_words.specs.Words.{AreWordsOf}
use Rattle.trail_book.proofs.SetLemmas.{words_with}
use Rattle.trail_book.proofs.trail.Trail.push.Goals as goal

-- no variable stands twice, so there are at most as many slots as variables
pub overflow_cast-len : goal.overflow_cast-len
overflow_cast-len c =
    grind (arith, c.len.ensures, slots_room c.self.inside.vars c.self.inside.slots.items c.self.invariant.trail, c.self.invariant.small)

-- while a variable has no value there is room
pub push_reserved-requires : goal.push_reserved-requires
push_reserved-requires c =
    let unset = subst (λ (t : Trail). IsUnset (trues t.entries) c.args.slot.lit) (sym c.self.view_is) c.requires.unset in
    let is_lit = subst (λ (t : Trail). IsLiteral t.vars c.args.slot.lit) (sym c.self.view_is) c.requires.lit in
    let room = push_room c.self.inside.vars c.self.inside.slots.items c.args.slot c.self.invariant.trail unset is_lit in
    grind (arith, room, c.self.invariant.room)

-- the new slot has its level and its place, its variable a value, and no other variable changes
pub invariant_of-self : goal.invariant_of-self
invariant_of-self c =
    let a = c.self.inside in
    let inv = c.self.invariant in
    let slot = c.args.slot in
    let old = a.slots.items in
    let unset = subst (λ (t : Trail). IsUnset (trues t.entries) slot.lit) (sym c.self.view_is) c.requires.unset in
    let is_lit = subst (λ (t : Trail). IsLiteral t.vars slot.lit) (sym c.self.view_is) c.requires.lit in
    let level = subst (λ (t : Trail). slot.level ≡ top (entry_of slot ∷ t.entries)) (sym c.self.view_is) c.requires.level in
    let seen : reverse c.push_reserved.new.self.items ≡ slot ∷ reverse old = ap reverse c.push_reserved.ensures.items ∙ push_seen old slot in
    let index : c.var.result - 1 ≡ var_of slot.lit - 1 = omega (arith, c.var.ensures.same) in
    let within : var_of slot.lit - 1 < length a.values.items = omega (arith, inv.one_value_each, is_lit.not_zero, is_lit.in_range) in
    let value : c.by.result ≡ value_by slot.lit = c.by.ensures in
    let place : c.len.result ≡ length old = grind (arith, c.len.ensures) in
    let values : set a.values.items (var_of slot.lit - 1) (value_by slot.lit) ≡ set a.values.items (c.var.result - 1) c.by.result =
    rw (index, value) refl in
    let places : set a.places.items (var_of slot.lit - 1) (length old) ≡ set a.places.items (c.var.result - 1) c.len.result = rw (index, place) refl in
    record {
      trail = subst (λ (ss : List Slot). IsTrail a.vars (entries_of ss)) (sym seen) (unset, is_lit, inv.trail);
      slots = subst (λ (ss : List Slot). AreKept (set a.places.items (c.var.result - 1) c.len.result) ss) (sym seen)
          (subst (λ (ps : List ℕ). AreKept ps (slot ∷ reverse old)) places
          (kept_push a.vars a.places.items old slot inv.trail unset is_lit inv.one_place_each level inv.slots));
      values = subst (λ (ss : List Slot). AreValues a.vars (set a.values.items (c.var.result - 1) c.by.result) (trues (entries_of ss))) (sym seen)
          (subst (λ (vs : List Value). AreValues a.vars vs (trues (entries_of (slot ∷ reverse old)))) values
          (values_push a.vars a.values.items (trues (entries_of (reverse old))) slot.lit is_lit inv.one_value_each inv.values));
      one_value_each = length-set a.values.items (c.var.result - 1) c.by.result ∙ inv.one_value_each;
      one_place_each = length-set a.places.items (c.var.result - 1) c.len.result ∙ inv.one_place_each;
      small = inv.small;
      room = omega (arith, inv.room, c.push_reserved.ensures.capacity);
      one_held_each = inv.one_held_each;
      one_touched_each = inv.one_touched_each;
      of_vars = inv.of_vars;
      ranked = inv.ranked;
      sized = inv.sized;
      heap = inv.heap;
      words = λ few. subst (λ (ss : List Slot). AreWordsOf c.note_true.new.words (trues (entries_of ss))) (sym seen) (words_with a.words c.note_true.new.words (trues (entries_of (reverse old))) slot.lit (c.note_true.ensures few) (inv.words few));
      admitted = inv.admitted;
      waiting = subst (λ (vs : List Value). AreWaiting vs a.touched.items a.heap) values (waiting_push a.values.items a.touched.items a.heap slot.lit (var_of slot.lit - 1) within inv.waiting);
    }
