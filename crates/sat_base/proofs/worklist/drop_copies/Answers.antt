use Rattle.std.proofs.Common.{ℕ, List, ◌∷◌, [], Option, Some, None, ◌≡◌, ◌∙◌, sym, length, arith}
use Rattle.std.specs.BinaryHeap.{heap_items, heap_len, PopsGreatest}
use Rattle.std.specs.Ordering.{nat_cmp}
use Rattle.std.specs.Prelude.{IfSome, IfNone}
use Rattle.std.specs.List.Sorted.{IsPermutation}
use Rattle.std.proofs.lemmas.Bool.{false≢true}
use Rattle.sat_base.specs.Members.{In}
use Rattle.sat_base.proofs.WorkLemmas.{IsLeft, left_more, copies_lost}
use Rattle.sat_base.proofs.worklist.drop_copies.Goals as goal

nothing : (n : ℕ) (xs : List ℕ) → In n xs → length xs ≡ 0 → ⊥
nothing n [] i e = i
nothing n (x ∷ xs) i e = omega arith

-- the first number, which is taken out, is a copy
step : (n count : ℕ) (old now new : List ℕ) (taken : Option ℕ) → IsLeft n old now → In n now → IfSome taken (λ x. IsPermutation now (x ∷ new)) → IfSome taken (λ x. PopsGreatest nat_cmp now x new)
    → IfNone taken (count ≡ 0) → length now ≡ count → IsLeft n old new
step n count old now new (Some x) left here moved pops none len = left_more n x old now new left here moved pops
step n count old now new None left here moved pops none len = absurd (nothing n now here (len ∙ none))

pub loop-numbers-preserved : goal.loop-numbers-preserved
loop-numbers-preserved c =
    step c.args.greatest (heap_len c.loop-numbers.numbers) (heap_items c.args.numbers.now) (heap_items c.loop-numbers.numbers) (heap_items c.pop.new.self) c.pop.result c.loop-numbers.invariant
    (c.has_copy.ensures.0 c.loop-numbers-test.true) c.pop.ensures.permutation c.pop.ensures.heap_order c.pop.ensures.none (omega arith)

-- the greatest number is not there any more
pub returns-clause-copies : goal.returns-clause-copies
returns-clause-copies c =
    copies_lost c.args.greatest (heap_items c.args.numbers.now) (heap_items c.loop-numbers.numbers) c.loop-numbers.invariant
    (λ i. false≢true (sym c.loop-numbers-test.false ∙ c.has_copy.ensures.1 i))
