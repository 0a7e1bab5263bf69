-- Choices that are positive literals.
use Rattle.std.proofs.Common.{◌≡◌, ℕ, ◌+◌, ◌<◌, ◌≤◌, List, [], ◌∷◌, Option, Some, None, sym, subst, inl, inr, arith}
use Rattle.std.proofs.lemmas.Bool.Decides.{leb_tells}
use Rattle.sat_base.specs.Database.{StoredClause}
use Rattle.trail_book.specs.declared.entry.Entry.{Entry}
use Rattle.trail_book.specs.Trail.{trues, level_after, top, keep}
use Rattle.trail_book.proofs.TrailLemmas.{keep-whole, keep-skip, level_after-at_least}
use Rattle.propagate.specs.Propagation.{Grows}
use Rattle.propagate.proofs.GrowsLemmas.{forced}
use Rattle.cdcl_core.specs.State.{IsPositiveAbove, ArePositive}

-- going back
pub positive_keep : (count k : ℕ) (es : List Entry) → ArePositive count es → ArePositive count (keep k es)
positive_keep count k [] p = p
positive_keep count k (e ∷ es) p = elim (leb_tells (top (e ∷ es)) k) [
  | inl kept ↦ subst (ArePositive count) (sym (keep-whole k (e ∷ es) kept.1)) p
  | inr above ↦ subst (ArePositive count) (sym (keep-skip k e es above.1)) (positive_keep count k es p.1)
]

-- where no level becomes that of a choice
pub positive_recount : (count new : ℕ) (es : List Entry) → ((n : ℕ) → n ≤ top es → new < n → count < n) → ArePositive count es → ArePositive new es
positive_recount count new [] same p = tt
positive_recount count new (e ∷ es) same p =
    (entry e.reason same p.0, positive_recount count new es (λ n h. same n (let more = level_after-at_least e.reason (top es) in omega (arith, more, h))) p.1)
  where
    entry : (r : Option ℕ) → ((n : ℕ) → n ≤ level_after r (top es) → new < n → count < n) → IsPositiveAbove count (top es + 1) e.lit r → IsPositiveAbove new (top es + 1) e.lit r
    entry (Some id) k h = tt
    entry None k h = λ above. h (k (top es + 1) (omega arith) above)

-- propagation
pub positive_grows : (db : List StoredClause) (count : ℕ) (old new : List Entry) → Grows db old new → ArePositive count old → ArePositive count new
positive_grows db count old [] g p = tt
positive_grows db count old (e ∷ es) (inl same) p = subst (ArePositive count) same p
positive_grows db count old (e ∷ es) (inr g) p =
    let (id, is, r, k) = forced db (trues es) e.lit e.reason e.unit g.0 in
    (subst (IsPositiveAbove count (top es + 1) e.lit) (sym is) tt, positive_grows db count old es g.2 p)

-- at level 0 there is no choice
pub positive_root : (count : ℕ) (es : List Entry) → top es ≡ 0 → ArePositive count es
positive_root count [] z = tt
positive_root count (e ∷ es) z = go e.reason z (λ zero. positive_root count es zero)
  where
    go : (r : Option ℕ) → level_after r (top es) ≡ 0 → (top es ≡ 0 → ArePositive count es) → IsPositiveAbove count (top es + 1) e.lit r × ArePositive count es
    go None z rest = absurd (omega arith)
    go (Some id) z rest = (tt, rest z)
