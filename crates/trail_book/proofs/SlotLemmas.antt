-- Slots, the oldest first as in the table and the newest first as seen, against the entries that they hold.
use Rattle.std.proofs.Common.{◌≡◌, ℕ, ◌+◌, ◌-◌, ◌<◌, ◌≤◌, List, [], ◌∷◌, ◌++◌, length, map, take, drop, get_or, set, Option, Some, refl, sym, ◌∙◌, ap, subst, inl, inr, arith, length-drop, length-append, length-set, get_or-set_same, get_or-set_other}
use Rattle.std.specs.Prelude.{ℤ, pos, reverse, slice_index_or, ◌==◌, None}
use Rattle.std.proofs.lemmas.List.{reverse-append, length-reverse, take-append-drop, take_more, drop_at, length-map, map-append, take-set-le, drop-set-lt}
use Rattle.std.proofs.lemmas.Bool.{cases_lt, cond-false, ne_eqb}
use Rattle.sat_base.specs.Literals.{var_of, IsLiteral}
use Rattle.sat_base.specs.Members.{In}
use Rattle.sat_base.specs.Units.{IsUnset, HasValue}
use Rattle.trail_book.specs.declared.entry.Entry.{Entry}
use Rattle.trail_book.specs.declared.slot.Slot.{Slot}
use Rattle.trail_book.specs.Trail.{trues, level_after, top, oldest, IsTrail, IsPlace, with_unit}
use Rattle.trail_book.specs.Slots.{id_of, entry_of, entries_of, AreKept}
use Rattle.trail_book.proofs.TrailLemmas.{trail_room, with_unit-same, with_unit-other}
use Rattle.trail_book.proofs.PlaceLemmas.{place_newest, place_unskip, place_one, place_of_entry, place_of_var, unset_differs}

pub id_some : (id : ℕ) → 0 < id → id_of id ≡ Some id
id_some id h = cond-false (id == 0) None (Some id) (ne_eqb id 0 (λ none. absurd (omega (arith, h, none))))

pub push_seen : (slots : List Slot) (s : Slot) → reverse (slots ++ s ∷ []) ≡ s ∷ reverse slots
push_seen slots s = reverse-append slots (s ∷ [])

pub take_seen : (slots : List Slot) (p : ℕ) (s : Slot) → p < length slots → s ≡ get_or slots p s → reverse (take (p + 1) slots) ≡ s ∷ reverse (take p slots)
take_seen slots p s h is =
    ap reverse (take_more slots p s h) ∙ push_seen (take p slots) (get_or slots p s) ∙ ap (λ (t : Slot). t ∷ reverse (take p slots)) (sym is)

pub split_seen : (slots : List Slot) (p : ℕ) → reverse slots ≡ reverse (drop p slots) ++ reverse (take p slots)
split_seen slots p = ap reverse (sym (take-append-drop p slots)) ∙ reverse-append (take p slots) (drop p slots)

pub split_at : (slots : List Slot) (p : ℕ) (s : Slot) → p < length slots → s ≡ get_or slots p s
    → reverse slots ≡ reverse (drop (p + 1) slots) ++ s ∷ reverse (take p slots)
split_at slots p s h is =
    split_seen slots (p + 1) ∙ ap (λ (low : List Slot). reverse (drop (p + 1) slots) ++ low) (take_seen slots p s h is)

pub length-entries : (slots : List Slot) → length (entries_of (reverse slots)) ≡ length slots
length-entries slots = length-map (reverse slots) entry_of ∙ length-reverse slots

-- the table holds as many slots as there are variables at most
pub slots_room : (vars : ℕ) (slots : List Slot) → IsTrail vars (entries_of (reverse slots)) → length slots ≤ vars
slots_room vars slots t = omega (arith, trail_room vars (entries_of (reverse slots)) t, length-entries slots)

pub push_room : (vars : ℕ) (slots : List Slot) (s : Slot) → IsTrail vars (entries_of (reverse slots)) → IsUnset (trues (entries_of (reverse slots))) s.lit
    → IsLiteral vars s.lit → length slots < vars
push_room vars slots s t unset is_lit =
    omega (arith, trail_room vars (entry_of s ∷ entries_of (reverse slots)) (unset, is_lit, t), length-entries slots)

pub oldest_seen : (slots : List Slot) (p : ℕ) → p ≤ length slots → oldest p (entries_of (reverse slots)) ≡ entries_of (reverse (take p slots))
oldest_seen slots p h =
    let up = reverse (drop p slots) in
    let low = reverse (take p slots) in
    let count : length (entries_of up) ≡ length (entries_of (reverse slots)) - p =
    omega (arith, length-map up entry_of, length-reverse (drop p slots), length-drop p slots, length-entries slots) in
    ap (drop (length (entries_of (reverse slots)) - p)) (ap entries_of (split_seen slots p) ∙ map-append entry_of up low)
    ∙ drop_at (entries_of up) (entries_of low) (length (entries_of (reverse slots)) - p) count

-- what is read at a place
pub place_reads : (slots : List Slot) (p : ℕ) (s : Slot) → p < length slots → s ≡ get_or slots p s
    → oldest (p + 1) (entries_of (reverse slots)) ≡ entry_of s ∷ oldest p (entries_of (reverse slots))
place_reads slots p s h is =
    oldest_seen slots (p + 1) (omega (arith, h)) ∙ ap entries_of (take_seen slots p s h is)
    ∙ ap (λ (low : List Entry). entry_of s ∷ low) (sym (oldest_seen slots p (omega (arith, h))))

pub kept_low : (places : List ℕ) (up low : List Slot) → AreKept places (up ++ low) → AreKept places low
kept_low places [] low k = k
kept_low places (s ∷ up) low k = kept_low places up low k.1

pub level_reads : (places : List ℕ) (slots : List Slot) (p : ℕ) (s : Slot) → AreKept places (reverse slots) → p < length slots → s ≡ get_or slots p s
    → s.level ≡ top (oldest (p + 1) (entries_of (reverse slots)))
level_reads places slots p s k h is =
    let here = kept_low places (reverse (drop (p + 1) slots)) (s ∷ reverse (take p slots)) (subst (AreKept places) (split_at slots p s h is) k) in
    here.0.level ∙ sym (ap top (oldest_seen slots (p + 1) (omega (arith, h)) ∙ ap entries_of (take_seen slots p s h is)))

-- the table has the place of each entry
pub place_known : (places : List ℕ) (seen : List Slot) (x : Entry) (p : ℕ) → AreKept places seen → p < length (entries_of seen)
    → oldest (p + 1) (entries_of seen) ≡ x ∷ oldest p (entries_of seen) → slice_index_or places (var_of x.lit - 1) 0 ≡ p
place_known places [] x p k h at = absurd (omega (arith, h))
place_known places (s ∷ seen) x p k h at = elim (cases_lt p (length (entries_of seen))) [
  | inl old ↦ place_known places seen x p k.1 old (place_unskip (entry_of s) (entries_of seen) x p old at)
  | inr new ↦
      let last : length (entries_of seen) ≡ p = omega (arith, h, new) in
      let newest = subst (λ (n : ℕ). oldest (n + 1) (entries_of (s ∷ seen)) ≡ entry_of s ∷ oldest n (entries_of (s ∷ seen))) last (place_newest (entry_of s) (entries_of seen)) in
      let same : x ≡ entry_of s = place_one (entries_of (s ∷ seen)) x (entry_of s) p at newest in
      ap (λ (y : Entry). slice_index_or places (var_of y.lit - 1) 0) same ∙ k.0.place ∙ sym (length-map seen entry_of) ∙ last
]

pub place_unique : (places : List ℕ) (seen : List Slot) (v p : ℕ) → AreKept places seen → IsPlace (entries_of seen) v p → slice_index_or places (v - 1) 0 ≡ p
place_unique places seen v p k is =
    ap (λ (n : ℕ). slice_index_or places (n - 1) 0) (sym is.of_var) ∙ place_known places seen is.entry p k is.within is.at

pub place_found : (places : List ℕ) (seen : List Slot) (v : ℕ) → AreKept places seen → HasValue (trues (entries_of seen)) (pos v)
    → IsPlace (entries_of seen) v (slice_index_or places (v - 1) 0)
place_found places seen v k has =
    let (p, is) = place_of_var (entries_of seen) v has in subst (IsPlace (entries_of seen) v) (sym (place_unique places seen v p k is)) is

-- the slot at the place of a variable holds the entry of that variable
pub entry_found : (places : List ℕ) (slots : List Slot) (v p : ℕ) (s : Slot) (e : Entry) → AreKept places (reverse slots) → IsPlace (entries_of (reverse slots)) v p
    → s ≡ get_or slots p s → In e (entries_of (reverse slots)) → var_of e.lit ≡ v → entry_of s ≡ e
entry_found places slots v p s e k is read i of_var =
    let (q, at, within) = place_of_entry e (entries_of (reverse slots)) i in
    let same : q ≡ p =
    sym (place_unique places (reverse slots) v q k (record { entry = e; at = at; of_var = of_var; within = within }))
    ∙ place_unique places (reverse slots) v p k is in
    let lt : p < length slots = omega (arith, is.within, length-entries slots) in
    place_one (entries_of (reverse slots)) (entry_of s) e p (place_reads slots p s lt read)
    (subst (λ (n : ℕ). oldest (n + 1) (entries_of (reverse slots)) ≡ e ∷ oldest n (entries_of (reverse slots))) same at)

-- a place that is written for a variable without value is that of no slot
kept_other : (vars : ℕ) (places : List ℕ) (seen : List Slot) (l : ℤ) (n : ℕ) → IsTrail vars (entries_of seen) → IsUnset (trues (entries_of seen)) l
    → IsLiteral vars l → AreKept places seen → AreKept (set places (var_of l - 1) n) seen
kept_other vars places [] l n t u is_lit k = k
kept_other vars places (s ∷ seen) l n t u is_lit k =
    let differ : ¬ (var_of s.lit - 1 ≡ var_of l - 1) =
    λ same. unset_differs (trues (entries_of (s ∷ seen))) l s.lit u (inl refl) (omega (arith, same, t.1.not_zero, is_lit.not_zero)) in (
      record { level = k.0.level; place = get_or-set_other places (var_of l - 1) (var_of s.lit - 1) n 0 differ ∙ k.0.place },
      kept_other vars places seen l n t.2 (record { not_true = λ i. u.not_true (inr i); not_false = λ i. u.not_false (inr i) }) is_lit k.1,
    )

pub kept_push : (vars : ℕ) (places : List ℕ) (slots : List Slot) (s : Slot) → IsTrail vars (entries_of (reverse slots)) → IsUnset (trues (entries_of (reverse slots))) s.lit
    → IsLiteral vars s.lit → length places ≡ vars → s.level ≡ top (entry_of s ∷ entries_of (reverse slots)) → AreKept places (reverse slots)
    → AreKept (set places (var_of s.lit - 1) (length slots)) (s ∷ reverse slots)
kept_push vars places slots s t u is_lit len level k = (
  record {
    level = level;
    place = get_or-set_same places (var_of s.lit - 1) (length slots) 0 (omega (arith, len, is_lit.not_zero, is_lit.in_range)) ∙ sym (length-reverse slots);
  },
  kept_other vars places (reverse slots) s.lit (length slots) t u is_lit k,
)

-- A slot whose unit is set, the newest slots first.
unit_other : (vars v id : ℕ) (es : List Entry) → ((m : ℤ) → In m (trues es) → ¬ (var_of m ≡ v)) → map (with_unit v id) es ≡ es
unit_other vars v id [] f = refl
unit_other vars v id (e ∷ es) f =
    ap (λ (x : Entry). x ∷ map (with_unit v id) es) (with_unit-other v id e (f e.lit (inl refl)))
    ∙ ap (λ (xs : List Entry). e ∷ xs) (unit_other vars v id es (λ m i. f m (inr i)))

has_lit : (up : List Slot) (s : Slot) (low : List Slot) → In s.lit (trues (entries_of (up ++ s ∷ low)))
has_lit [] s low = inl refl
has_lit (u ∷ up) s low = inr (has_lit up s low)

unit_seen : (vars id : ℕ) (up : List Slot) (s : Slot) (low : List Slot) → IsTrail vars (entries_of (up ++ s ∷ low)) → 0 < id
    → entries_of (up ++ record { lit = s.lit; level = s.level; reason = s.reason; unit = id } ∷ low) ≡ map (with_unit (var_of s.lit) id) (entries_of (up ++ s ∷ low))
unit_seen vars id [] s low t h =
    let v = var_of s.lit in
    ap (λ (o : Option ℕ). record { lit = s.lit; reason = id_of s.reason; unit = o } ∷ entries_of low) (id_some id h)
    ∙ ap (λ (e : Entry). e ∷ entries_of low) (sym (with_unit-same v id (entry_of s) refl))
    ∙ ap (λ (es : List Entry). with_unit v id (entry_of s) ∷ es) (sym (unit_other vars v id (entries_of low) (λ m i. unset_differs (trues (entries_of low)) s.lit m t.0 i)))
unit_seen vars id (u ∷ up) s low t h =
    let v = var_of s.lit in
    let differ : ¬ (var_of u.lit ≡ v) = λ same. unset_differs (trues (entries_of (up ++ s ∷ low))) u.lit s.lit t.0 (has_lit up s low) (sym same) in
    ap (λ (es : List Entry). entry_of u ∷ es) (unit_seen vars id up s low t.2 h)
    ∙ ap (λ (e : Entry). e ∷ map (with_unit v id) (entries_of (up ++ s ∷ low))) (sym (with_unit-other v id (entry_of u) differ))

unit_top : (id : ℕ) (up : List Slot) (s : Slot) (low : List Slot)
    → top (entries_of (up ++ record { lit = s.lit; level = s.level; reason = s.reason; unit = id } ∷ low)) ≡ top (entries_of (up ++ s ∷ low))
unit_top id [] s low = refl
unit_top id (u ∷ up) s low = ap (level_after (id_of u.reason)) (unit_top id up s low)

unit_kept : (places : List ℕ) (id : ℕ) (up : List Slot) (s : Slot) (low : List Slot) → AreKept places (up ++ s ∷ low)
    → AreKept places (up ++ record { lit = s.lit; level = s.level; reason = s.reason; unit = id } ∷ low)
unit_kept places id [] s low k = (record { level = k.0.level; place = k.0.place }, k.1)
unit_kept places id (u ∷ up) s low k =
    let set_one : Slot = record { lit = s.lit; level = s.level; reason = s.reason; unit = id } in (
      record {
        level = k.0.level ∙ ap (level_after (id_of u.reason)) (sym (unit_top id up s low));
        place = omega (arith, k.0.place, length-append up (s ∷ low), length-append up (set_one ∷ low));
      },
      unit_kept places id up s low k.1,
    )

-- the same of the table
unit_split : (slots : List Slot) (p : ℕ) (s : Slot) (id : ℕ) → p < length slots
    → reverse (set slots p (record { lit = s.lit; level = s.level; reason = s.reason; unit = id }))
    ≡ reverse (drop (p + 1) slots) ++ record { lit = s.lit; level = s.level; reason = s.reason; unit = id } ∷ reverse (take p slots)
unit_split slots p s id h =
    let set_one : Slot = record { lit = s.lit; level = s.level; reason = s.reason; unit = id } in
    let within : p < length (set slots p set_one) = omega (arith, h, length-set slots p set_one) in
    split_at (set slots p set_one) p set_one within (sym (get_or-set_same slots p set_one set_one h))
    ∙ ap (λ (up : List Slot). reverse up ++ set_one ∷ reverse (take p (set slots p set_one))) (drop-set-lt (p + 1) slots p set_one (omega arith))
    ∙ ap (λ (low : List Slot). reverse (drop (p + 1) slots) ++ set_one ∷ reverse low) (take-set-le p slots p set_one (omega arith))

pub unit_entries : (vars : ℕ) (slots : List Slot) (p : ℕ) (s : Slot) (v id : ℕ) → IsTrail vars (entries_of (reverse slots)) → p < length slots → s ≡ get_or slots p s
    → var_of s.lit ≡ v → 0 < id
    → entries_of (reverse (set slots p (record { lit = s.lit; level = s.level; reason = s.reason; unit = id }))) ≡ map (with_unit v id) (entries_of (reverse slots))
unit_entries vars slots p s v id t h is of_var some =
    let up = reverse (drop (p + 1) slots) in
    let low = reverse (take p slots) in
    let whole : reverse slots ≡ up ++ s ∷ low = split_at slots p s h is in
    ap entries_of (unit_split slots p s id h)
    ∙ unit_seen vars id up s low (subst (λ (seen : List Slot). IsTrail vars (entries_of seen)) whole t) some
    ∙ ap (λ (n : ℕ). map (with_unit n id) (entries_of (up ++ s ∷ low))) of_var
    ∙ ap (λ (seen : List Slot). map (with_unit v id) (entries_of seen)) (sym whole)

pub unit_slots : (places : List ℕ) (slots : List Slot) (p : ℕ) (s : Slot) (id : ℕ) → AreKept places (reverse slots) → p < length slots → s ≡ get_or slots p s
    → AreKept places (reverse (set slots p (record { lit = s.lit; level = s.level; reason = s.reason; unit = id })))
unit_slots places slots p s id k h is =
    subst (AreKept places) (sym (unit_split slots p s id h))
    (unit_kept places id (reverse (drop (p + 1) slots)) s (reverse (take p slots)) (subst (AreKept places) (split_at slots p s h is) k))
