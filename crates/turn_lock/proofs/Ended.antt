-- What the closed table tells of all seats.
use Rattle.std.proofs.Common.{◌≡◌, ℕ, zero, suc, ◌+◌, ◌<◌, List, [], ◌∷◌, map, length, get_or, remove, All, Option, Some, refl, sym, ap, ◌∙◌, subst, arith}
use Rattle.std.proofs.lemmas.List.Elements.{All-head, All-tail, All-cons, All-nil, All-weaker}
use Rattle.std.proofs.lemmas.List.{length-map}
use mathlib.Core.Option.{some, some-injective}
use mathlib.Core.List.{IsPrefix}
use lib.ListN.{get_elem?}
use Rattle.atomic_table.specs.Table.{Final, Me, Seen}
use Rattle.turn_lock.specs.declared.view.Stage.TheVariants.{Idle}
use Rattle.turn_lock.specs.declared.view.Note.{Note}
use Rattle.turn_lock.specs.declared.view.View.{View}
use Rattle.turn_lock.specs.Calls.{calls_by}
use Rattle.turn_lock.specs.Rule.{Kept}
use Rattle.turn_lock.specs.Moves.{note_at, with_notes}
use Rattle.turn_lock.specs.Seats.{TableId, LockView, SeatView, AreAll, HasAll}
use Rattle.turn_lock.specs.Closings.{note_of}
use Rattle.turn_lock.specs.Badges.{seat_view, view_of}
use Rattle.turn_lock.proofs.Badges.{has_view}
use Rattle.turn_lock.proofs.Seated.{IsSoOf}
use Rattle.turn_lock.proofs.Steps.{closes}

of_sources : {X Y : Type 0} (f : X → Y) (P : Y → Type 0) (xs : List X) → All P (map f xs) → All (λ x. P (f x)) xs
of_sources f P [] h = All-nil (λ x. P (f x))
of_sources f P (x ∷ xs) h = All-cons (λ x. P (f x)) x xs (All-head P (f x) (map f xs) h) (of_sources f P xs (All-tail P (f x) (map f xs) h))

first_and_rest : {X : Type 0} (xs : List X) (s : X) (os : List X) → 0 < length xs → s ≡ get_or xs 0 s → os ≡ remove xs 0 → xs ≡ s ∷ os
first_and_rest [] s os one e f = absurd (omega arith)
first_and_rest (x ∷ xs) s os one e f = λ i. (sym e i) ∷ (sym f i)

numbered : {X Y : Type 0} (f : X → Y) (number : Y → ℕ) (xs : List X) (k : ℕ) → ((i : ℕ) (d : X) → i < length xs → number (f (get_or xs i d)) ≡ i + k) → (i : ℕ) (d : Y) → i < length (map f xs) → number (get_or (map f xs) i d) ≡ i + k
numbered f number [] k h i d low = absurd (omega arith)
numbered f number (x ∷ xs) k h zero d low = h 0 x (omega arith)
numbered f number (x ∷ xs) k h (suc i) d low = numbered f number xs (k + 1) (λ j c l. h (suc j) c (omega arith) ∙ omega arith) i d (omega arith) ∙ omega arith

module _ {B E O : Type 0} (caller : E → ℕ) (legal : O → List E → Type 0) (history : B → List E) (opening : B → O) (start : O) where
  abbrev pub Ends : List (Option B) → List (SeatView E O) → Type 0
  Ends slots seats = (y : B) × (get_elem? slots 0 ≡ some (Some y)) × (opening y ≡ start) × HasAll caller legal start seats (history y)

  pub ends : (l : LockView O) (t : TableId) (seats : List (SeatView E O)) (s : SeatView E O) (others : List (SeatView E O)) (v w : View E O) (n id : ℕ) (words : List ℕ) (slots : List (Option B))
      → AreAll l seats → s ≡ get_or seats 0 s → others ≡ remove seats 0 → seat_view t n v ≡ s → v.number ≡ n → v.stage ≡ Idle → w ≡ with_notes v (map note_of others)
      → Final (Seen (Kept caller legal history opening start) id w) words slots → Ends slots seats
  ends l t seats s others v w n id words slots all head tail is number idle joined f =
      let whole : seats ≡ s ∷ others = first_and_rest seats s others all.some head tail in
      let size : length seats ≡ length others + 1 = ap length whole ∙ omega arith in
      let u : View E O = with_notes v (map note_of others) in
      let made : v.made ≡ length seats = ap (λ (z : SeatView E O). z.made) is ∙ (ap (λ (z : SeatView E O). z.made) head ∙ all.made 0 s all.some) in
      let size' : length (map note_of others) ≡ length others = length-map others note_of in
      let places : (i : ℕ) (d : SeatView E O) → i < length others → (get_or others i d).number ≡ i + 1 = λ i d low.
      ap (λ (z : List (SeatView E O)). (get_or z (suc i) d).number) (sym whole) ∙ (all.number (suc i) d (omega arith) ∙ omega arith) in
      let k = closes caller legal history opening start id u words slots idle (omega arith) (numbered note_of (λ (m : Note E O). m.number) others 1 places)
      (subst (λ (z : View E O). Final (Seen (Kept caller legal history opening start) id z) words slots) joined f) in
      let y : B = k.0 in
      let own : note_at v ≡ note_of s = ap (λ (z : ℕ). note_of (seat_view t z v)) number ∙ ap note_of is in
      let P : Note E O → Type 0 = IsSoOf caller (history y) in
      let each : All (λ z. P (note_of z)) seats = subst (All (λ (z : SeatView E O). P (note_of z))) (sym whole) (All-cons (λ z. P (note_of z)) s others (subst P own k.2.last) (of_sources note_of P others k.2.others)) in (
        y,
        k.1,
        k.2.opening_is,
        record {
          is_legal = k.2.is_legal;
          seen = All-weaker (λ z. P (note_of z)) (λ z. IsPrefix z.seen (history y)) (λ z h. h.seen) seats each;
          mine = All-weaker (λ z. P (note_of z)) (λ z. calls_by caller z.number (history y) ≡ z.mine) (λ z h. h.all) seats each;
          named = subst (λ (z : ℕ). All (λ e. caller e < z) (history y)) made k.2.named;
        },
      )

  -- the same of the slot that was taken, where the first seat lay in a badge of these views
  pub ends_with : (l : LockView O) (t : TableId) (seats : List (SeatView E O)) (s : SeatView E O) (others : List (SeatView E O)) (vs : List (View E O)) (v : View E O) (m : Me (Option B) (View E O)) (n id : ℕ) (words : List ℕ) (slots : List (Option B)) (slot : Option B)
      → AreAll l seats → s ≡ get_or seats 0 s → others ≡ remove seats 0 → seat_view t n (view_of vs) ≡ s → (view_of vs).number ≡ n → (view_of vs).stage ≡ Idle → vs ≡ v ∷ []
      → m ≡ (with_notes v (map note_of others), []) → Final (Seen (Kept caller legal history opening start) id m.0) words slots → get_elem? slots 0 ≡ some slot
      → (y : B) × (slot ≡ Some y) × (opening y ≡ start) × HasAll caller legal start seats (history y)
  ends_with l t seats s others vs v m n id words slots slot all head tail is number idle one joined f taken =
      let view : v ≡ view_of vs = has_view vs vs v refl one in
      let e = ends l t seats s others v m.0 n id words slots all head tail (ap (seat_view t n) view ∙ is) (ap (λ (u : View E O). u.number) view ∙ number) (ap (λ (u : View E O). u.stage) view ∙ idle) (ap (λ (z : Me (Option B) (View E O)). z.0) joined) f in
      (e.0, some-injective slot (Some e.0) (sym taken ∙ e.1), e.2, e.3)
