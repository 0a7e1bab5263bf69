use Rattle.std.proofs.Common.{◌≡◌, ◌<◌, ◌-◌, ◌/◌, ◌^◌, ◌∙◌, ℕ, length, sym, subst, arith, length-set}
use Rattle.std.proofs.lemmas.List.{length-map}
use Rattle.std.specs.Prelude.{pos}
use Rattle.sat_base.specs.Literals.{IsLiteral}
use Rattle.trail_book.specs.Trail.{Trail}
use Rattle.trail_book.specs.Order.{Ranking, rank}
use Rattle.trail_book.specs.Heap.{IsRaised}
use Rattle.trail_book.proofs.WaitLemmas.{admitted_same, waiting_all, waiting_more}
use Rattle.trail_book.proofs.OrderLemmas.{bump_lifts, bump_raises}
use Rattle.trail_book.proofs.trail.Trail.bump.Goals as goal

-- the variable ranks higher, and no other one changes
pub raise-requires-clause-heap : goal.raise-requires-clause-heap
raise-requires-clause-heap c =
    let old = c.self.inside.ranking in
    let index = c.args.var - 1 in
    let is_lit = subst (λ (t : Trail). IsLiteral t.vars (pos c.args.var)) (sym c.self.view_is) c.requires in
    let within : index < length old.activities = omega (arith, c.self.invariant.ranked, is_lit.not_zero, is_lit.in_range) in (
      old,
      c.self.invariant.heap,
      subst (λ (r : Ranking). IsRaised (rank old) (rank r) index) (sym (c.bump.ensures.room c.if-bump.false))
          (record { higher = bump_lifts old index within; others = λ other apart. bump_raises old index other within apart }),
    )

-- all that are touched are taken in, and none is in order yet
pub invariant_of-self : goal.invariant_of-self
invariant_of-self c =
    let a = c.self.inside in
    let inv = c.self.invariant in
    let fill = c.fill.ensures in
    record {
      trail = inv.trail;
      slots = inv.slots;
      values = inv.values;
      one_value_each = inv.one_value_each;
      one_place_each = inv.one_place_each;
      one_held_each = inv.one_held_each;
      one_touched_each = inv.one_touched_each;
      small = inv.small;
      room = inv.room;
      of_vars = inv.of_vars;
      ranked = subst (λ (r : Ranking). length r.activities ≡ a.vars) (sym (c.bump.ensures.full c.if-bump.true)) (length-set _ _ _ ∙ length-map a.ranking.activities (λ (activity : ℕ). activity / 2 ^ 32) ∙ inv.ranked);
      sized = fill.size ∙ inv.sized;
      heap = λ high low f b in_heap. absurd (omega (arith, in_heap, fill.sorted));
      words = inv.words;
      admitted = admitted_same a.touched.items a.heap c.fill.new.self fill.admits inv.admitted;
      waiting = waiting_all a.values.items a.touched.items a.heap c.fill.new.self fill.holds inv.admitted;
    }

-- the heap holds the same
pub invariant_of-self-else-bump : goal.invariant_of-self-else-bump
invariant_of-self-else-bump c =
    let a = c.self.inside in
    let inv = c.self.invariant in
    let keeps = c.raise.ensures.keeps in
    record {
      trail = inv.trail;
      slots = inv.slots;
      values = inv.values;
      one_value_each = inv.one_value_each;
      one_place_each = inv.one_place_each;
      one_held_each = inv.one_held_each;
      one_touched_each = inv.one_touched_each;
      small = inv.small;
      room = inv.room;
      of_vars = inv.of_vars;
      ranked = subst (λ (r : Ranking). length r.activities ≡ a.vars) (sym (c.bump.ensures.room c.if-bump.false)) (length-set _ _ _ ∙ inv.ranked);
      sized = keeps.size ∙ inv.sized;
      heap = c.raise.ensures.heap;
      words = inv.words;
      admitted = admitted_same a.touched.items a.heap c.raise.new.self keeps.admits inv.admitted;
      waiting = waiting_more a.values.items a.touched.items a.heap c.raise.new.self keeps.holds inv.waiting;
    }
