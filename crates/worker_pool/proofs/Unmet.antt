-- Groups that are taken out of a set.
use Rattle.std.proofs.Common.{ℕ, ◌+◌, ◌<◌, List, [], ◌∷◌, ◌++◌, length, drop, get_or, sym, subst, arith}
use Rattle.std.proofs.lemmas.List.{drop_more, append_assoc}
use Rattle.gm_base.specs.Sets.{AscendsAbove, IsGroupSet}
use Rattle.gm_base.proofs.SetLemmas.{AscendsAbove-from, AscendsAbove-front}

AscendsAbove-skip : (low : ℕ) (xs : List ℕ) (g : ℕ) (ys : List ℕ) → AscendsAbove low (xs ++ g ∷ ys) → AscendsAbove low (xs ++ ys)
AscendsAbove-skip low [] g ys h = let above = h.0 in AscendsAbove-from low g ys (omega arith) h.1
AscendsAbove-skip low (x ∷ xs) g ys h = (h.0, AscendsAbove-skip x xs g ys h.1)

next_of : (kept items : List ℕ) (i : ℕ) → i < length items → IsGroupSet (kept ++ drop i items) → IsGroupSet (kept ++ get_or items i 0 ∷ drop (i + 1) items)
next_of kept items i within h = subst (λ gs. IsGroupSet (kept ++ gs)) (drop_more items i 0 within) h

-- the next one is passed over
pub unmet_skips : (kept items : List ℕ) (i : ℕ) → i < length items → IsGroupSet (kept ++ drop i items) → IsGroupSet (kept ++ drop (i + 1) items)
unmet_skips kept items i within h = AscendsAbove-skip 0 kept (get_or items i 0) (drop (i + 1) items) (next_of kept items i within h)

-- or kept
pub unmet_keeps : (kept items : List ℕ) (i : ℕ) → i < length items → IsGroupSet (kept ++ drop i items)
    → IsGroupSet ((kept ++ get_or items i 0 ∷ []) ++ drop (i + 1) items)
unmet_keeps kept items i within h = subst IsGroupSet (sym (append_assoc kept (get_or items i 0 ∷ []) (drop (i + 1) items))) (next_of kept items i within h)

pub unmet_push : (kept items : List ℕ) (i : ℕ) → i < length items → IsGroupSet (kept ++ drop i items) → IsGroupSet (kept ++ get_or items i 0 ∷ [])
unmet_push kept items i within h = AscendsAbove-front 0 (kept ++ get_or items i 0 ∷ []) (drop (i + 1) items) (unmet_keeps kept items i within h)
