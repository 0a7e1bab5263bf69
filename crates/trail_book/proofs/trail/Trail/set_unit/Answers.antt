use Rattle.std.proofs.Common.{◌≡◌, ◌<◌, ◌∙◌, List, length, map, arith, ap, subst, sym}
use Rattle.sat_base.specs.Literals.{var_of}
use Rattle.trail_book.specs.declared.entry.Entry.{Entry}
use Rattle.trail_book.specs.Trail.{Trail, trues, IsTrail, IsPlace, with_unit}
use Rattle.trail_book.specs.Slots.{entry_of}
use Rattle.trail_book.specs.Values.{AreValues}
use Rattle.trail_book.specs.Tables.{trail_of, holding}
use Rattle.trail_book.proofs.TrailLemmas.{IsTrail-with_unit, trues-with_unit}
use Rattle.trail_book.proofs.PlaceLemmas.{place_one}
use Rattle.trail_book.proofs.SlotLemmas.{length-entries, place_reads, unit_entries, unit_slots}
use Rattle.lit_words.specs.Words.{AreWordsOf}
use Rattle.trail_book.proofs.trail.Trail.set_unit.Goals as goal

-- the literals, levels and places stay, and so do the values
pub invariant_of-self : goal.invariant_of-self
invariant_of-self c =
    let slots = c.self.inside.slots.items in
    let es = (trail_of c.self.inside).entries in
    let vars = c.self.inside.vars in
    let is = subst (λ (t : Trail). IsPlace t.entries c.args.var c.place-place.result) (sym c.self.view_is) c.place-place.ensures in
    let within : c.place-place.result < length slots = omega (arith, is.within, length-entries slots) in
    let slot = c.index_mut.result.now in
    let read = c.index_mut.ensures.value in
    let here : entry_of slot ≡ is.entry = place_one es (entry_of slot) is.entry c.place-place.result (place_reads slots c.place-place.result slot within read) is.at in
    let of_var : var_of slot.lit ≡ c.args.var = ap (λ (e : Entry). var_of e.lit) here ∙ is.of_var in
    let entries = unit_entries vars slots c.place-place.result slot c.args.var c.args.id c.self.invariant.trail within read of_var c.requires.id in
    let trues_are = ap trues entries ∙ trues-with_unit c.args.var c.args.id es in
    record {
      trail = subst (IsTrail vars) (sym entries) (IsTrail-with_unit vars c.args.var c.args.id es c.self.invariant.trail);
      slots = unit_slots c.self.inside.places.items slots c.place-place.result slot c.args.id c.self.invariant.slots within read;
      values = subst (AreValues vars c.self.inside.values.items) (sym trues_are) c.self.invariant.values;
      one_value_each = c.self.invariant.one_value_each;
      one_place_each = c.self.invariant.one_place_each;
      small = c.self.invariant.small;
      room = c.self.invariant.room;
      one_held_each = c.self.invariant.one_held_each;
      one_touched_each = c.self.invariant.one_touched_each;
      of_vars = c.self.invariant.of_vars;
      ranked = c.self.invariant.ranked;
      sized = c.self.invariant.sized;
      heap = c.self.invariant.heap;
      words = λ few. subst (AreWordsOf c.self.inside.words) (sym trues_are) (c.self.invariant.words few);
      admitted = c.self.invariant.admitted;
      waiting = c.self.invariant.waiting;
    }

-- no other entry is of this variable
pub returns-clause-entries : goal.returns-clause-entries
returns-clause-entries c =
    let slots = c.self.inside.slots.items in
    let es = (trail_of c.self.inside).entries in
    let is = subst (λ (t : Trail). IsPlace t.entries c.args.var c.place-place.result) (sym c.self.view_is) c.place-place.ensures in
    let within : c.place-place.result < length slots = omega (arith, is.within, length-entries slots) in
    let slot = c.index_mut.result.now in
    let read = c.index_mut.ensures.value in
    let here : entry_of slot ≡ is.entry = place_one es (entry_of slot) is.entry c.place-place.result (place_reads slots c.place-place.result slot within read) is.at in
    let of_var : var_of slot.lit ≡ c.args.var = ap (λ (e : Entry). var_of e.lit) here ∙ is.of_var in
    unit_entries c.self.inside.vars slots c.place-place.result slot c.args.var c.args.id c.self.invariant.trail within read of_var c.requires.id
    ∙ ap (λ (t : Trail). map (with_unit c.args.var c.args.id) t.entries) c.self.view_is

-- what is true stays
pub returns-clause-held : goal.returns-clause-held
returns-clause-held c =
    let slots = c.self.inside.slots.items in
    let es = (trail_of c.self.inside).entries in
    let is = subst (λ (t : Trail). IsPlace t.entries c.args.var c.place-place.result) (sym c.self.view_is) c.place-place.ensures in
    let within : c.place-place.result < length slots = omega (arith, is.within, length-entries slots) in
    let slot = c.index_mut.result.now in
    let read = c.index_mut.ensures.value in
    let here : entry_of slot ≡ is.entry = place_one es (entry_of slot) is.entry c.place-place.result (place_reads slots c.place-place.result slot within read) is.at in
    let of_var : var_of slot.lit ≡ c.args.var = ap (λ (e : Entry). var_of e.lit) here ∙ is.of_var in
    let entries = unit_entries c.self.inside.vars slots c.place-place.result slot c.args.var c.args.id c.self.invariant.trail within read of_var c.requires.id in
    ap (λ (es : List Entry). holding c.self.inside.held.items (trues es)) entries
    ∙ ap (holding c.self.inside.held.items) (trues-with_unit c.args.var c.args.id es)
    ∙ ap (λ (t : Trail). t.held) c.self.view_is
