use Rattle.std.proofs.Common.{◌∷◌, inl, refl}
use Rattle.std.specs.BinaryHeap.{heap_items}
use Rattle.std.proofs.lemmas.List.Sorted.{IsPermutation-sym}
use Rattle.sat_base.proofs.WorkLemmas.{bound_of, taken_of, In-permutation}
use Rattle.sat_base.proofs.worklist.WorkList.take_greatest.Goals as goal

-- what is left of a heap has nothing above what was taken out
pub drop_copies-requires-clause-bound : goal.drop_copies-requires-clause-bound
drop_copies-requires-clause-bound c = bound_of (heap_items c.pop.new.self) c.in_ok-greatest.greatest (c.in_ok-greatest.ensures.below_top c.self.invariant)

-- the first number and all its copies are taken out
pub returns : goal.returns
returns c =
    let old = heap_items c.self.inside.numbers in
    let rest = heap_items c.pop.new.self in
    let n = c.in_ok-greatest.greatest in
    let ensures = c.in_ok-greatest.ensures in
    rw (← c.self.view_is) (
      record {
        has = In-permutation (n ∷ rest) old n (IsPermutation-sym old (n ∷ rest) ensures.permutation) (inl refl);
        above = bound_of old n (ensures.heap_order c.self.invariant).1;
      },
      taken_of n old rest (heap_items c.drop_copies.new.numbers) ensures.permutation c.drop_copies.ensures.copies,
    )
