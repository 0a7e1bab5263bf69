use Rattle.std.proofs.Common.{◌≡◌, ◌<◌, ◌≤◌, ◌+◌, ◌∙◌, ℕ, length, inl, inr, ap, subst, sym, arith}
use Rattle.std.specs.Prelude.{slice_index}
use Rattle.std.proofs.lemmas.Bool.{cases_lt}
use Rattle.std.proofs.lemmas.List.{get_or_read}
use Rattle.trail_book.specs.Heap.{Heap, IsSwapped}
use Rattle.trail_book.proofs.HeapLemmas.{StandsBefore, only_before}
use Rattle.trail_book.proofs.heap.Heap.admit.Goals as goal

-- the item takes the first place of those that the heap did not admit, and no other comes before
pub returns-clause-only : goal.returns-clause-only
returns-clause-only c = λ other has.
    let a = c.self.inside in
    let old = c.args.self.now in
    let mid = c.swap-2.new.self in
    let item = c.args.item in
    let place = c.index-place.result.now in
    let t = c.self.invariant.places in
    let within : item < length a.items.items = subst (λ (h : Heap). item < length h.items) (sym c.self.view_is) c.requires.item in
    let read : place ≡ slice_index a.places.items item = get_or_read a.places.items item place (omega (arith, within, t.same)) c.index-place.ensures 0 in
    let is : slice_index old.items place ≡ item =
    subst (λ (h : Heap). slice_index h.items place ≡ item) c.self.view_is (ap (slice_index a.items.items) read ∙ t.item_at item within) in
    let behind : old.admitted ≤ place = elim (cases_lt place old.admitted) [
      | inl low ↦ absurd (c.requires.fresh (place, low, is))
      | inr high ↦ high
    ] in
    let swapped : IsSwapped old.items mid.items place old.admitted =
    subst (λ (n : ℕ). IsSwapped old.items mid.items place n) (ap (λ (h : Heap). h.admitted) c.swap.view_is) c.swap-2.ensures.swapped in
    let seen : StandsBefore (mid.admitted + 1) mid.items other = subst (λ (h : Heap). StandsBefore (h.admitted + 1) h.items other) c.self-2.view_is has in
    only_before old.admitted old.items mid.items place item behind swapped is other
    (subst (λ (n : ℕ). StandsBefore (n + 1) mid.items other) c.swap-2.ensures.admitted seen)
