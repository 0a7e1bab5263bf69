-- What a closed lock tells of workers that are done.
use Rattle.std.proofs.Common.{◌≡◌, ℕ, zero, suc, ◌*◌, ◌<◌, List, [], ◌∷◌, length, map, get_or, All, sym, refl, ap, ◌∙◌, subst, arith}
use Rattle.std.proofs.lemmas.List.{length-map}
use Rattle.turn_lock.specs.Calls.{calls_by}
use Rattle.turn_lock.specs.Seats.{LockView, SeatView, IsSeatOf, AreAll, HasAll, made_at}
use Rattle.lock_tally.specs.declared.tally.Added.{Added}
use Rattle.lock_tally.specs.declared.worker.Worker.{Worker}
use Rattle.lock_tally.specs.Tallies.{who_of, reply_of, IsLegal}
use Rattle.lock_tally.specs.Crews.{seat_of, replies_of, IsDone, AreDone, HasTurns, AreReplies}
use Rattle.lock_tally.proofs.Callers.{length-callers, total_of-even, of_all_callers}
use Rattle.lock_tally.proofs.Sums.{sum-ones}

-- the value at a place, whatever stands for a place that is not there
at_place : {A B : Type 0} (f : A → B) (xs : List A) (k : ℕ) → k < length xs → (a : A) × ((d : A) → get_or xs k d ≡ a) × ((d : B) → get_or (map f xs) k d ≡ f a)
at_place f [] k low = absurd (omega arith)
at_place f (x ∷ xs) zero low = (x, (λ d. refl), λ d. refl)
at_place f (x ∷ xs) (suc k) low = at_place f xs k (omega arith)

module _ (l : LockView ℕ) (count turns : ℕ) (ws : List Worker) (done : AreDone l count turns ws) where
  -- the worker at a place, which is done, with its seat and replies
  of_worker : {B : Type 0} (f : Worker → B) (P : B → Type 0) (k : ℕ) → k < count → ((w : Worker) → IsDone l count turns k w → P (f w)) → (d : B) → P (get_or (map f ws) k d)
  of_worker f P k low h d =
      let size = done.count_is in
      let a = at_place f ws k (omega arith) in
      subst P (sym (a.2 d)) (h a.0 (subst (IsDone l count turns k) (a.1 a.0) (done.each k a.0 low)))

  seats_size : length (map seat_of ws) ≡ count
  seats_size = length-map ws seat_of ∙ done.count_is

  pub are_all : (seats : List (SeatView Added ℕ)) → 0 < count → seats ≡ map seat_of ws → AreAll l seats
  are_all seats one same = subst (AreAll l) (sym same) record {
    some = subst (λ (n : ℕ). 0 < n) (sym seats_size) one;
    of = λ k d low. of_worker seat_of (IsSeatOf l) k (subst (λ (n : ℕ). k < n) seats_size low) (λ w i. i.of) d;
    number = λ k d low. of_worker seat_of (λ s. s.number ≡ k) k (subst (λ (n : ℕ). k < n) seats_size low) (λ w i. i.number) d;
    made = λ k d low. of_worker seat_of (λ s. s.made ≡ made_at k (length (map seat_of ws))) k (subst (λ (n : ℕ). k < n) seats_size low) (λ w i. i.made ∙ ap (made_at k) (sym seats_size)) d;
  }

  -- the entries of each number are its worker's
  entries_of : (seats : List (SeatView Added ℕ)) (entries : List Added) → seats ≡ map seat_of ws → HasAll who_of IsLegal l.opening seats entries → (k : ℕ) → k < count → (w : Worker) × IsDone l count turns k w × (calls_by who_of k entries ≡ w.seat.mine) × ((d : List ℕ) → get_or (map replies_of ws) k d ≡ w.replies.items)
  entries_of seats entries same all k low =
      let size = done.count_is in
      let a = at_place seat_of ws k (omega arith) in
      let b = at_place replies_of ws k (omega arith) in
      let w : Worker = a.0 in
      let i : IsDone l count turns k w = subst (IsDone l count turns k) (a.1 w) (done.each k w low) in
      let inside : k < length seats = let s = seats_size in let t = ap length same in omega arith in
      let is : get_or seats k w.seat ≡ w.seat = ap (λ (z : List (SeatView Added ℕ)). get_or z k w.seat) same ∙ a.2 w.seat in
      let calls : calls_by who_of w.seat.number entries ≡ w.seat.mine = subst (λ (s : SeatView Added ℕ). calls_by who_of s.number entries ≡ s.mine) is (all.mine k w.seat inside) in
      let same_worker : b.0 ≡ w = sym (b.1 w) ∙ a.1 w in
      (w, i, ap (λ (n : ℕ). calls_by who_of n entries) (sym i.number) ∙ calls, λ d. b.2 d ∙ ap replies_of same_worker)

  pub has_turns : (seats : List (SeatView Added ℕ)) (entries : List Added) → seats ≡ map seat_of ws → HasAll who_of IsLegal l.opening seats entries → HasTurns count turns entries
  has_turns seats entries same all =
      let of = entries_of seats entries same all in
      let named : All (λ (e : Added). e.who < count) entries = subst (λ (n : ℕ). All (λ (e : Added). e.who < n) entries) (ap length same ∙ seats_size) all.named in
      let each : (k : ℕ) → k < count → length (calls_by who_of k entries) ≡ turns = λ k low. let w = of k low in ap length w.2 ∙ w.1.many in
      let ones : All (λ (e : Added). e.amount ≡ 1) entries = of_all_callers who_of (λ (e : Added). e.amount ≡ 1) count entries named
      (λ k low. let w = of k low in subst (All (λ (e : Added). e.amount ≡ 1)) (sym w.2) w.1.ones) in
      let total : length entries ≡ count * turns = length-callers who_of count entries named ∙ total_of-even (λ k. length (calls_by who_of k entries)) turns count each in
      record { is_legal = subst (λ (n : ℕ). IsLegal n entries) done.opening all.is_legal; each = each; ones = ones; total = total; sum = sum-ones entries ones ∙ total }

  pub are_replies : (seats : List (SeatView Added ℕ)) (entries : List Added) (replies : List (List ℕ)) → seats ≡ map seat_of ws → replies ≡ map replies_of ws → HasAll who_of IsLegal l.opening seats entries → AreReplies count entries replies
  are_replies seats entries replies same told all = subst (AreReplies count entries) (sym told)
      (length-map ws replies_of ∙ done.count_is, λ k d low. let w = entries_of seats entries same all k low in w.3 d ∙ (w.1.replies ∙ ap (map reply_of) (sym w.2)))
