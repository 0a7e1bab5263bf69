-- Taking new groups into a start.
use Rattle.std.proofs.Common.{◌≡◌, ℕ, zero, suc, ◌<◌, Bool, true, not, ◌||◌, List, [], ◌∷◌, ◌++◌, length, take, get_or, sym, ◌∙◌, ap, subst, inl, inr, leb, arith}
use Rattle.std.proofs.lemmas.Bool.{and_parts, and_from, or_left, cases_Bool, cond-true, cond-false, le-leb, false≢true, false_from_ne_true}
use Rattle.std.specs.List.{filter}
use Rattle.gm_base.specs.Sets.{AscendsAbove, has, IsSubset, all_groups, complement}
use Rattle.gm_base.proofs.SetLemmas.{AscendsAbove-from, has-filter, all_groups-has, has-complement-parts, has-complement-from}
use Rattle.evidence_rec.specs.declared.record.Record.{Record}
use Rattle.evidence_rec.specs.declared.record.Record.TheVariants.{Conflict, Correction}
use Rattle.mss_grow.specs.Grown.{IsCorrectionOutside}
use Rattle.edit_session.specs.Opening.{without_new}

-- of an ascending list those before a place that are kept, and the one at the place, ascend
pub ascends-kept : (p : ℕ → Bool) (low : ℕ) (xs : List ℕ) (i : ℕ) → AscendsAbove low xs → i < length xs → AscendsAbove low (filter p (take i xs) ++ get_or xs i 0 ∷ [])
ascends-kept p low [] i ascends lt = absurd (omega arith)
ascends-kept p low (x ∷ xs) zero ascends lt = (ascends.0, tt)
ascends-kept p low (x ∷ xs) (suc i) ascends lt =
    let g = get_or xs i 0 in
    let rest = filter p (take i xs) in
    let later = ascends-kept p x xs i ascends.1 (omega arith) in
    let below = ascends.0 in
    elim (cases_Bool (p x)) [
      | inl on ↦ subst (λ gs. AscendsAbove low (gs ++ g ∷ [])) (sym (cond-true (p x) (x ∷ rest) rest on)) (ascends.0, later)
      | inr off ↦ subst (λ gs. AscendsAbove low (gs ++ g ∷ [])) (sym (cond-false (p x) (x ∷ rest) rest off)) (AscendsAbove-from low x (rest ++ g ∷ []) (omega arith) later)
    ]

-- groups up to the number stay
pub stays : (groups : ℕ) (core start wide rest : List ℕ) → rest ≡ without_new groups core wide → IsSubset start (all_groups groups) → IsSubset start wide → IsSubset start rest
stays groups core start wide rest is low wider g i =
    let high = (all_groups-has groups g (low g i)).1 in
    ap (λ gs. has gs g) is ∙ has-filter (λ h. leb h groups || not (has core h)) wide g
    ∙ and_from (leb g groups || not (has core g)) (has wide g) (or_left (leb g groups) (not (has core g)) (le-leb g groups high)) (wider g i)

pub rest-within : (groups : ℕ) (core wide rest all : List ℕ) → rest ≡ without_new groups core wide → IsSubset wide all → IsSubset rest all
rest-within groups core wide rest all is within g i =
    within g (and_parts (leb g groups || not (has core g)) (has wide g) (sym (has-filter (λ h. leb h groups || not (has core h)) wide g) ∙ ap (λ gs. has gs g) (sym is) ∙ i)).1

-- ---- what a correction leaves of the old groups, and of all

pub left-within : (groups : ℕ) (set start : List ℕ) → start ≡ complement groups set → IsSubset start (all_groups groups)
left-within groups set start is g i = (has-complement-parts groups set g (subst (λ gs. has gs g ≡ true) is i)).1

pub left-wider : (old new : ℕ) (set start wide : List ℕ) → IsSubset start (all_groups new) → start ≡ complement old set → wide ≡ complement new set → IsSubset start wide
left-wider old new set start wide within start_is wide_is g i =
    ap (λ gs. has gs g) wide_is ∙ has-complement-from new set g (within g i) (has-complement-parts old set g (subst (λ gs. has gs g ≡ true) start_is i)).0

-- what is outside of a wider set is outside of the set
pub outside-wider : (start wide : List ℕ) (made : Record) → IsSubset start wide → IsCorrectionOutside wide made → IsCorrectionOutside start made
outside-wider start wide (Conflict out proof ws) wider outside = outside
outside-wider start wide (Correction out w ps) wider outside =
    λ g i. false_from_ne_true (has start g) (λ on. false≢true (sym (outside g i) ∙ wider g on))
