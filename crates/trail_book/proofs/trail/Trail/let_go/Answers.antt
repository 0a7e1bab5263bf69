use Rattle.std.proofs.Common.{◌≢◌, ◌<◌, ◌∙◌, sym, length, arith}
use Rattle.std.specs.Prelude.{slice_index_or}
use Rattle.std.proofs.lemmas.List.{get_or_read}
use Rattle.trail_book.specs.declared.value.Value.TheVariants.{Unset}
use Rattle.trail_book.specs.Order.{rank}
use Rattle.trail_book.proofs.WaitLemmas.{admitted_same, waiting_drop}
use Rattle.trail_book.proofs.trail.Trail.let_go.Goals as goal

-- the one that goes has a value
pub loop-place-preserved : goal.loop-place-preserved
loop-place-preserved c =
    let a = c.loop-place.self-inside in
    let inv = c.loop-place.invariant.tables in
    let index = c.at-item.result in
    let within : index < length a.values.items = omega (arith, c.at-item.ensures.within, inv.sized, inv.one_value_each) in
    let read = get_or_read a.values.items index c.index.result.now within c.index.ensures Unset in
    let has : slice_index_or a.values.items index Unset ≢ Unset = λ gone. grind (arith, read, gone, c.eq.ensures, c.if-eq.false) in
    let gone = c.drop_at.ensures in
    record {
      tables = record {
        trail = inv.trail;
        slots = inv.slots;
        values = inv.values;
        one_value_each = inv.one_value_each;
        one_place_each = inv.one_place_each;
        one_held_each = inv.one_held_each;
        one_touched_each = inv.one_touched_each;
        small = inv.small;
        room = inv.room;
        of_vars = inv.of_vars;
        ranked = inv.ranked;
        sized = gone.size ∙ inv.sized;
        heap = gone.heap (rank a.ranking) inv.heap;
        words = inv.words;
        admitted = admitted_same a.touched.items a.heap c.drop_at.new.self gone.admits inv.admitted;
        waiting = waiting_drop a.values.items a.touched.items a.heap c.drop_at.new.self index has (λ item held apart. gone.holds item held (λ same. apart (same ∙ sym c.at-item.ensures.item))) inv.waiting;
      };
      same = c.loop-place.invariant.same;
      held = omega (arith, gone.count, c.loop-place.invariant.held);
    }
