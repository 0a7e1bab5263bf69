-- Lists of seats, where they are made and where they are joined.
use Rattle.std.proofs.Common.{◌≡◌, ℕ, zero, suc, ◌+◌, ◌<◌, List, [], ◌∷◌, ◌++◌, map, length, get_or, All, sym, ap, ◌∙◌, subst, arith, append_assoc}
use Rattle.std.proofs.lemmas.List.{map_push}
use Rattle.std.proofs.lemmas.List.Elements.{All-head, All-tail, All-cons, All-nil}
use Rattle.turn_lock.specs.declared.view.Note.{Note}
use Rattle.turn_lock.specs.declared.view.View.{View}
use Rattle.turn_lock.specs.Moves.{made_view}
use Rattle.turn_lock.specs.Seats.{TableId, SeatView, new_seat, AreNew}
use Rattle.turn_lock.specs.Closings.{note_of}
use Rattle.turn_lock.specs.Seats.{made_at}
use Rattle.turn_lock.specs.Badges.{seat_view}

module _ {A : Type 0} (P : A → Type 0) where
  front : (l : List A) (a : A) → All P (l ++ a ∷ []) → All P l
  front [] a h = All-nil P
  front (x ∷ xs) a h = All-cons P x xs (All-head P x (xs ++ a ∷ []) h) (front xs a (All-tail P x (xs ++ a ∷ []) h))

  last : (l : List A) (a : A) → All P (l ++ a ∷ []) → P a
  last [] a h = All-head P a [] h
  last (x ∷ xs) a h = last xs a (All-tail P x (xs ++ a ∷ []) h)

  pub all_before : (l : List A) (a : A) (m : List A) → m ≡ l ++ a ∷ [] → All P m → All P l
  all_before l a m e h = front l a (subst (All P) e h)

  pub all_last : (l : List A) (a : A) (m : List A) → m ≡ l ++ a ∷ [] → All P m → P a
  all_last l a m e h = last l a (subst (All P) e h)

module _ {E O : Type 0} where
  -- the seats that are left and the notes of those that were joined are all seats, in their order
  pub joined_one : (rest all items : List (SeatView E O)) (s : SeatView E O) (j j' : List (Note E O)) → items ≡ rest ++ s ∷ [] → map note_of items ++ j ≡ map note_of all → j' ≡ note_of s ∷ j → map note_of rest ++ j' ≡ map note_of all
  joined_one rest all items s j j' e h f = ap (λ (l : List (Note E O)). map note_of rest ++ l) f
      ∙ (sym (append_assoc (map note_of rest) (note_of s ∷ []) j) ∙ (ap (λ (l : List (Note E O)). l ++ j) (sym (map_push note_of rest s)) ∙ (ap (λ (l : List (SeatView E O)). map note_of l ++ j) (sym e) ∙ h)))

  -- the first seat, and the others as they were dealt
  pub new_all : (lock t : TableId) (start : O) (count : ℕ) (v : View E O) (others items : List (SeatView E O)) → items ≡ seat_view t 0 v ∷ others → t ≡ lock → v ≡ made_view start count
      → length others + 1 ≡ count → ((k : ℕ) (d : SeatView E O) → k < length others → get_or others k d ≡ new_seat lock start 0 (k + 1)) → AreNew record { id = lock; opening = start } count items
  new_all lock t start count v others items e f g size each = record {
    count_is = ap length e ∙ (let s = size in omega arith);
    each = λ k d low. ap (λ (l : List (SeatView E O)). get_or l k d) e ∙ at k d (let s : length items ≡ length others + 1 = ap length e ∙ omega arith in omega arith);
  }
    where
      first : seat_view t 0 v ≡ new_seat lock start count 0
      first = ap (λ (z : TableId). seat_view z 0 v) f ∙ ap (λ (z : View E O). seat_view lock 0 z) g

      at : (k : ℕ) (d : SeatView E O) → k < length others + 1 → get_or (seat_view t 0 v ∷ others) k d ≡ new_seat lock start (made_at k count) k
      at zero d low = first
      at (suc k) d low = each k d (omega arith) ∙ ap (new_seat lock start 0) (omega arith)
