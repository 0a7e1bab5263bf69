use Rattle.std.proofs.Common.{◌≡◌, ◌<◌, ◌∙◌, length, get_or, set, sym, subst, arith, length-set}
use Rattle.std.proofs.lemmas.List.{get_or_read}
use Rattle.trail_book.specs.Heap.{Heap}
use Rattle.trail_book.proofs.HeapLemmas.{places_exchanged}
use Rattle.trail_book.proofs.heap.Heap.swap.Goals as goal

-- each item keeps a place, and the two have changed theirs
pub invariant_of-self : goal.invariant_of-self
invariant_of-self c =
    let items = c.self.inside.items.items in
    let places = c.self.inside.places.items in
    let one : c.args.one < length items = subst (λ (h : Heap). c.args.one < length h.items) (sym c.self.view_is) c.requires.one in
    let other : c.args.other < length items = subst (λ (h : Heap). c.args.other < length h.items) (sym c.self.view_is) c.requires.other in
    let item : c.index-item.result.now ≡ get_or items c.args.one 0 = get_or_read items c.args.one c.index-item.result.now one c.index-item.ensures 0 in
    let next : c.index-next.result.now ≡ get_or items c.args.other 0 = get_or_read items c.args.other c.index-next.result.now other c.index-next.ensures 0 in
    let t = places_exchanged items places c.args.one c.args.other one other c.self.invariant.places in
    let len : length (set (set items c.args.one c.index-next.result.now) c.args.other c.index-item.result.now) ≡ length items =
    length-set (set items c.args.one c.index-next.result.now) c.args.other c.index-item.result.now ∙ length-set items c.args.one c.index-next.result.now in
    record {
      places = rw (item, next) t;
      sorted = c.self.invariant.sorted;
      count = c.self.invariant.count;
      admitted = omega (arith, len, c.self.invariant.admitted);
      small = omega (arith, len, c.self.invariant.small);
    }
