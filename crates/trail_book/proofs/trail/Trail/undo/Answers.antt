use Rattle.std.proofs.Common.{◌≡◌, ◌-◌, ◌∷◌, ◌∙◌, ℕ, List, set, arith, ap, subst, sym, length-set}
use Rattle.std.specs.Prelude.{reverse}
use Rattle.sat_base.specs.Literals.{var_of}
use Rattle.trail_book.specs.declared.slot.Slot.{Slot}
use Rattle.trail_book.specs.declared.value.Value.TheVariants.{Unset}
use Rattle.trail_book.specs.Trail.{Trail, trues, IsTrail}
use Rattle.trail_book.specs.Slots.{entries_of, AreKept}
use Rattle.trail_book.specs.Values.{AreValues}
use Rattle.trail_book.specs.Order.{rank}
use Rattle.trail_book.specs.Tables.{AreOfVars, holding}
use Rattle.trail_book.proofs.SlotLemmas.{push_seen}
use Rattle.trail_book.proofs.ValueLemmas.{values_undo}
use Rattle.trail_book.proofs.WaitLemmas.{admitted_same, waiting_undo, held_note, holding_note}
use Rattle.lit_words.specs.Words.{AreWordsOf}
use Rattle.trail_book.proofs.SetLemmas.{words_without}
use Rattle.trail_book.proofs.trail.Trail.undo.Goals as goal

-- the slots below the newest stay, its variable has no value any more and waits
pub invariant_of-self : goal.invariant_of-self
invariant_of-self c =
    let a = c.self.inside in
    let inv = c.self.invariant in
    let low = c.take_last-slot.new.self.items in
    let slot = c.take_last-slot.result in
    let seen : reverse a.slots.items ≡ slot ∷ reverse low = ap reverse c.take_last-slot.ensures.items ∙ push_seen low slot in
    let trail = subst (λ (ss : List Slot). IsTrail a.vars (entries_of ss)) seen inv.trail in
    let index : c.var-index.result - 1 ≡ var_of slot.lit - 1 = omega (arith, c.var-index.ensures.same) in
    record {
      trail = trail.2;
      slots = (subst (AreKept a.places.items) seen inv.slots).1;
      values = subst (λ (i : ℕ). AreValues a.vars (set a.values.items i Unset) (trues (entries_of (reverse low)))) (sym index)
          (values_undo a.vars a.values.items (trues (entries_of (reverse low))) slot.lit trail.1 inv.one_value_each trail.0
          (subst (λ (ss : List Slot). AreValues a.vars a.values.items (trues (entries_of ss))) seen inv.values));
      one_value_each = length-set a.values.items (c.var-index.result - 1) Unset ∙ inv.one_value_each;
      one_place_each = inv.one_place_each;
      small = inv.small;
      room = omega (arith, inv.room, c.take_last-slot.ensures.capacity);
      one_touched_each = inv.one_touched_each;
      one_held_each = length-set a.held.items (c.var-index.result - 1) slot.lit ∙ inv.one_held_each;
      of_vars = subst (λ (i : ℕ). AreOfVars a.vars (set a.held.items i slot.lit)) (sym index) (held_note a.vars a.held.items slot.lit trail.1 inv.one_held_each inv.of_vars);
      ranked = inv.ranked;
      sized = c.insert.ensures.size ∙ inv.sized;
      heap = c.insert.ensures.heap (rank a.ranking) inv.heap;
      words = λ few. words_without a.words c.note_unset.new.words (trues (entries_of (reverse low))) slot.lit trail.0 (c.note_unset.ensures few)
          (subst (λ (ss : List Slot). AreWordsOf a.words (trues (entries_of ss))) seen (inv.words few));
      admitted = admitted_same a.touched.items a.heap c.insert.new.self c.insert.ensures.admits inv.admitted;
      waiting = waiting_undo a.values.items a.touched.items a.heap c.insert.new.self (c.var-index.result - 1) c.insert.ensures.item c.insert.ensures.holds inv.admitted inv.waiting;
    }

-- it counted as held already
pub returns-clause-held : goal.returns-clause-held
returns-clause-held c =
    let a = c.self.inside in
    let low = c.take_last-slot.new.self.items in
    let slot = c.take_last-slot.result in
    let seen : reverse a.slots.items ≡ slot ∷ reverse low = ap reverse c.take_last-slot.ensures.items ∙ push_seen low slot in
    let trail = subst (λ (ss : List Slot). IsTrail a.vars (entries_of ss)) seen c.self.invariant.trail in
    let index : c.var-index.result - 1 ≡ var_of slot.lit - 1 = omega (arith, c.var-index.ensures.same) in
    ap (λ (i : ℕ). holding (set a.held.items i slot.lit) (trues (entries_of (reverse low)))) index
    ∙ holding_note a.vars a.held.items (entries_of (reverse low)) slot.lit trail.2 trail.0 trail.1
    ∙ ap (λ (ss : List Slot). holding a.held.items (trues (entries_of ss))) (sym seen)
    ∙ ap (λ (t : Trail). t.held) c.self.view_is

-- what is on a trail is over its variables
pub note_unset-requires : goal.note_unset-requires
note_unset-requires c =
    let a = c.self.inside in
    let low = c.take_last-slot.new.self.items in
    let slot = c.take_last-slot.result in
    let seen : reverse a.slots.items ≡ slot ∷ reverse low = ap reverse c.take_last-slot.ensures.items ∙ push_seen low slot in
    (subst (λ (ss : List Slot). IsTrail a.vars (entries_of ss)) seen c.self.invariant.trail).1
