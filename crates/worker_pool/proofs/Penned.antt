-- The pens of a journal, from a list to workers and back.
use Rattle.std.proofs.Common.{◌≡◌, ℕ, zero, suc, ◌+◌, ◌<◌, ◌≤◌, true, List, [], ◌∷◌, ◌++◌, length, map, get_or, All, Option, Some, None, is_some, option_map, refl, sym, ◌∙◌, ap, subst, arith, append_assoc, length-append}
use Rattle.std.specs.Prelude.{IfSome, IfNone, IfOk, IfErr, Result, Ok, Err}
use Rattle.std.specs.declared.alloc.AllocError.{AllocError}
use Rattle.std.proofs.lemmas.List.{get_or-map, length-map, append-nil}
use Rattle.gm_base.specs.Problem.{Problem}
use Rattle.turn_lock.specs.Seats.{AreNew, AreAll, IsSeatOf, IsSameSeat, made_at, new_seat}
use Rattle.evidence_rec.specs.Asking.{OracleState}
use Rattle.map_core.specs.declared.entry.Entry.{Entry}
use Rattle.map_core.specs.declared.entry.Opening.{Opening}
use Rattle.map_core.specs.declared.closing.Closing.{Closing}
use Rattle.map_core.specs.Own.{calls_of}
use Rattle.board.specs.Boards.{LockView, SeatView}
use Rattle.worker_pool.specs.declared.worker.Worker.{Worker}
use Rattle.worker_pool.specs.declared.pool.Ended.{Ended}
use Rattle.worker_pool.specs.Pens.{JournalView, PenView, written_by, failure_in, first_some, failure_among, one_each, all_some, HasWritten, IsPenOf, IsSamePen, IsReady}
use Rattle.worker_pool.specs.Workers.{HasNewPen, HasWorked, seat_of, pen_of, broken_of}
use Rattle.worker_pool.specs.Outcomes.{ArePensFor, TellsPens, TellsKept, IsKept, HaveCalls}
use Rattle.worker_pool.proofs.Crewed.{at_place, told_of}

-- ---- one for each

none-each : {A : Type 0} (n k : ℕ) (d : Option A) → k < n → get_or (one_each n []) k d ≡ None
none-each zero k d low = absurd (omega arith)
none-each (suc n) zero d low = refl
none-each (suc n) (suc k) d low = none-each n k d (omega arith)

some-each : {A : Type 0} (n k : ℕ) (xs : List A) (d : Option A) (e : A) → k < n → length xs ≡ n → get_or (one_each n xs) k d ≡ Some (get_or xs k e)
some-each zero k xs d e low all = absurd (omega arith)
some-each (suc n) k [] d e low all = absurd (omega (arith, all))
some-each (suc n) zero (x ∷ xs) d e low all = refl
some-each (suc n) (suc k) (x ∷ xs) d e low all = some-each n k xs d e (omega arith) (omega (arith, all))

-- so many at most
pub few-each : {A : Type 0} (n : ℕ) (xs : List A) → length (all_some (one_each n xs)) ≤ length xs
few-each zero xs = omega arith
few-each (suc n) [] = few-each n []
few-each (suc n) (x ∷ xs) = let rest = few-each n xs in omega arith

-- the first pen, if there is one, is the next worker's
next_pen : {A : Type 0} (n : ℕ) (old new : List A) (x : Option A) → IfSome x (λ y. old ≡ y ∷ new) → IfNone x ((old ≡ []) × (new ≡ [])) → one_each (suc n) old ≡ x ∷ one_each n new
next_pen n old new None some none = ap (one_each (suc n)) none.0 ∙ ap (λ l. None ∷ one_each n l) (sym none.1)
next_pen n old new (Some y) some none = ap (one_each (suc n)) some

pub pen_told : {A B C : Type 0} (f : A → Option C) (ws more : List A) (rest fewer : List B) (old new : List C) (w : A) {b : B} (all : List (Option C)) → map f ws ++ one_each (length rest) old ≡ all → rest ≡ b ∷ fewer
    → IfSome (f w) (λ y. old ≡ y ∷ new) → IfNone (f w) ((old ≡ []) × (new ≡ [])) → more ≡ ws ++ w ∷ [] → map f more ++ one_each (length fewer) new ≡ all
pen_told f ws more rest fewer old new w all was next some none pushed =
    told_of f ws more (one_each (length rest) old) (one_each (length fewer) new) w all was (ap (λ l. one_each (length l) old) next ∙ next_pen (length fewer) old new (f w) some none) pushed

pub fewer_pens : {A : Type 0} {n m : ℕ} (old new : List A) (x : Option A) → length old ≤ m → m ≡ suc n → IfSome x (λ y. old ≡ y ∷ new) → IfNone x ((old ≡ []) × (new ≡ [])) → length new ≤ n
fewer_pens old new None low left some none = let size = ap length none.1 in omega arith
fewer_pens old new (Some y) low left some none = let size = ap length some in omega (arith, size)

-- ---- those that are there

-- where each is there
all-there : {A : Type 0} (xs : List (Option A)) → ((k : ℕ) → k < length xs → (x : A) × (get_or xs k None ≡ Some x)) → map Some (all_some xs) ≡ xs
all-there [] each = refl
all-there (None ∷ xs) each = absurd (never (each 0 (omega arith)).0 (each 0 (omega arith)).1)
  where
    never : {A : Type 0} (x : A) → None ≡ Some x → ⊥
    never x e = cc
all-there (Some x ∷ xs) each = ap (λ l. Some x ∷ l) (all-there xs (λ k low. each (suc k) (omega arith)))

same-map : {A B : Type 0} (f g : A → B) (xs : List A) → ((k : ℕ) (d : A) → k < length xs → f (get_or xs k d) ≡ g (get_or xs k d)) → map f xs ≡ map g xs
same-map f g [] each = refl
same-map f g (x ∷ xs) each = ap (λ y. y ∷ map f xs) (each 0 x (omega arith)) ∙ ap (λ l. g x ∷ l) (same-map f g xs (λ k d low. each (suc k) d (omega arith)))

map-of : {A B C : Type 0} (f : B → C) (g : A → B) (xs : List A) → map f (map g xs) ≡ map (λ x. f (g x)) xs
map-of f g [] = refl
map-of f g (x ∷ xs) = ap (λ l. f (g x) ∷ l) (map-of f g xs)

none-first : {A : Type 0} (xs : List A) → first_some (map (λ x. None) xs) ≡ None
none-first [] = refl
none-first (x ∷ xs) = none-first xs

all_some-first : {A : Type 0} (x : Option A) (xs : List (Option A)) → all_some (x ∷ xs) ≡ all_some (x ∷ []) ++ all_some xs
all_some-first None xs = refl
all_some-first (Some x) xs = refl

first-both : (a b : Option ℕ) (rest : List (Option ℕ)) → first_some (first_some (a ∷ b ∷ []) ∷ rest) ≡ first_some (a ∷ b ∷ rest)
first-both None None rest = refl
first-both None (Some n) rest = refl
first-both (Some n) b rest = refl

first-alone : (a : Option ℕ) → first_some (a ∷ []) ≡ a
first-alone None = refl
first-alone (Some n) = refl

module _ {O D : Type 0} where
  pub pens_back : (pens more : List PenView) (old rest : List (Worker O D)) (w : Worker O D) (all : List PenView) → pens ++ all_some (map pen_of old) ≡ all → old ≡ w ∷ rest → more ≡ pens ++ all_some (w.pen ∷ [])
      → more ++ all_some (map pen_of rest) ≡ all
  pens_back pens more old rest w all was next pushed =
      ap (λ l. l ++ all_some (map pen_of rest)) pushed ∙ append_assoc pens (all_some (w.pen ∷ [])) (all_some (map pen_of rest)) ∙ ap (λ l. pens ++ l) (sym (all_some-first w.pen (map pen_of rest)))
      ∙ ap (λ l. pens ++ all_some (map pen_of l)) (sym next) ∙ was

  -- there is room for the pen
  pub pen_room : {room : ℕ} (pens : List PenView) (old rest : List (Worker O D)) (w : Worker O D) → length pens + length (all_some (map pen_of old)) ≤ room → old ≡ w ∷ rest → length pens + length (all_some (w.pen ∷ [])) ≤ room
  pen_room pens old rest w was next =
      let split = ap length (ap (λ l. all_some (map pen_of l)) next ∙ all_some-first w.pen (map pen_of rest)) in
      let both = length-append (all_some (w.pen ∷ [])) (all_some (map pen_of rest)) in
      omega arith

  pub pens_room : {room now : ℕ} (pens more : List PenView) (old rest : List (Worker O D)) (w : Worker O D) → length pens + length (all_some (map pen_of old)) ≤ room → old ≡ w ∷ rest → more ≡ pens ++ all_some (w.pen ∷ []) → now ≡ room
      → length more + length (all_some (map pen_of rest)) ≤ now
  pens_room pens more old rest w was next pushed same =
      let split = ap length (ap (λ l. all_some (map pen_of l)) next ∙ all_some-first w.pen (map pen_of rest)) in
      let both = length-append (all_some (w.pen ∷ [])) (all_some (map pen_of rest)) in
      let size = ap length pushed in
      let sum = length-append pens (all_some (w.pen ∷ [])) in
      omega arith

  pub all_back : (pens : List PenView) (rest : List (Worker O D)) (all : List PenView) → pens ++ all_some (map pen_of rest) ≡ all → length rest ≡ 0 → pens ≡ all
  all_back pens [] all was none = sym (append-nil pens) ∙ was
  all_back pens (w ∷ rest) all was none = absurd (omega (arith, none))

  pub broken_back : (first more : Option ℕ) (old rest : List (Worker O D)) (w : Worker O D) (all : Option ℕ) → first_some (first ∷ map broken_of old) ≡ all → old ≡ w ∷ rest → more ≡ first_some (first ∷ w.broken ∷ [])
      → first_some (more ∷ map broken_of rest) ≡ all
  broken_back first more old rest w all was next is =
      ap (λ x. first_some (x ∷ map broken_of rest)) is ∙ first-both first w.broken (map broken_of rest) ∙ ap (λ l. first_some (first ∷ map broken_of l)) (sym next) ∙ was

  pub first_left : (first : Option ℕ) (rest : List (Worker O D)) (all : Option ℕ) → first_some (first ∷ map broken_of rest) ≡ all → length rest ≡ 0 → first ≡ all
  first_left first [] all was none = sym (first-alone first) ∙ was
  first_left first (w ∷ rest) all was none = absurd (omega (arith, none))

-- ---- new pens

-- each worker has one, or none where there is no journal
pub all_new_pens : {O D : Type 0} (o : Opening) (p : Problem) (j : Option JournalView) (pens : List PenView) (ws : List (Worker O D)) (n : ℕ) → o.problem ≡ p → length ws ≡ n → o.workers ≡ n → ArePensFor o j pens
    → map pen_of ws ≡ one_each n pens → All (λ (w : Worker O D). w.broken ≡ None) ws → All (λ (w : Worker O D). HasNewPen j p w) ws
all_new_pens o p None pens ws n of size all none are whole k d low =
    let inside : k < n = omega arith in
    let pen : (get_or ws k d).pen ≡ None = sym (get_or-map pen_of ws k d (pen_of d) low) ∙ ap (λ l. get_or l k (pen_of d)) are ∙ ap (λ l. get_or (one_each n l) k (pen_of d)) none ∙ none-each n k (pen_of d) inside in
    record { pen = subst (IsPenOf p None) (sym pen) tt; none_yet = ap written_by pen; whole = whole k d low }
all_new_pens o p (Some j) pens ws n of size all ready are whole k d low =
    let inside : k < n = omega arith in
    let count = ready.all.count_is in
    let e : PenView = new_seat j.id j.opening 0 0 in
    let new = ready.all.each k e (omega arith) in
    let pen : (get_or ws k d).pen ≡ Some (new_seat j.id j.opening (made_at k o.workers) k) =
    sym (get_or-map pen_of ws k d (pen_of d) low) ∙ ap (λ l. get_or l k (pen_of d)) are ∙ some-each n k pens (pen_of d) e inside (omega arith) ∙ ap (λ (s : PenView). Some s) new in
    let seats = ready.seats in
    record {
      pen = subst (IsPenOf p (Some j)) (sym pen) (ready.problem ∙ of, record { lock = refl; opening = refl }, omega arith);
      none_yet = ap written_by pen;
      whole = whole k d low;
    }

-- ---- pens that come back

no_pen : (x : Option PenView) → IsSamePen None x → x ≡ None
no_pen None same = refl
no_pen (Some t) same = absurd same

the_pen : (s : PenView) (x : Option PenView) → IsSamePen (Some s) x → (t : PenView) × (x ≡ Some t) × IsSameSeat s t
the_pen s None same = absurd same
the_pen s (Some t) same = (t, refl, same)

-- what is said of them when the board is closed
pub tells_pens : {O D : Type 0} (o : Opening) (b : LockView Opening) (p : Problem) (state : O → OracleState) (j : Option JournalView) (pens left : List PenView) (ws ts : List (Worker O D)) (n : ℕ)
    (ends : List (SeatView Entry Opening)) (closing : Closing) (broken : Option ℕ) → 0 < n → length ws ≡ n → length ts ≡ length ws → o.workers ≡ n → ArePensFor o j pens → map pen_of ws ≡ one_each n pens
    → ((k : ℕ) (d : Worker O D) → k < length ws → HasWorked j b p state (get_or ws k d) (get_or ts k d)) → left ≡ all_some (map pen_of ts) → broken ≡ first_some (map broken_of ts)
    → ends ≡ map seat_of ts → HaveCalls closing.history ends → TellsPens o j pens closing broken left
tells_pens {O} {D} o b p state None pens left ws ts n ends closing broken some size same all none are each left_is broken_is ends_are calls =
    broken_is ∙ ap first_some (same-map broken_of (λ (t : Worker O D). None) ts (λ k d low.
    let inside : k < n = omega arith in
    let kept = (each k d (omega arith)).kept in
    let pen : (get_or ws k d).pen ≡ None = sym (get_or-map pen_of ws k d (pen_of d) (omega arith)) ∙ ap (λ l. get_or l k (pen_of d)) are ∙ ap (λ l. get_or (one_each n l) k (pen_of d)) none ∙ none-each n k (pen_of d) inside in
    let back = no_pen (get_or ts k d).pen (subst (λ x. IsSamePen x (get_or ts k d).pen) pen kept.pen) in
    kept.broken ∙ ap (λ x. failure_in (written_by x)) back)) ∙ none-first ts
tells_pens {O} {D} o b p state (Some j) pens left ws ts n ends closing broken some size same all ready are each left_is broken_is ends_are calls =
    let count = ready.all.count_is in
    let e : PenView = new_seat j.id j.opening 0 0 in
    let pen : (k : ℕ) (d : Worker O D) → k < length ts → (get_or ws k d).pen ≡ Some (new_seat j.id j.opening (made_at k n) k) = λ k d low.
    sym (get_or-map pen_of ws k d (pen_of d) (omega arith)) ∙ ap (λ l. get_or l k (pen_of d)) are ∙ some-each n k pens (pen_of d) e (omega arith) (omega arith)
    ∙ ap (λ (s : PenView). Some s) (ready.all.each k e (omega arith) ∙ ap (λ (m : ℕ). new_seat j.id j.opening (made_at k m) k) all) in
    let back : (k : ℕ) (d : Worker O D) → k < length ts → (t : PenView) × ((get_or ts k d).pen ≡ Some t) × IsSameSeat (new_seat j.id j.opening (made_at k n) k) t = λ k d low.
    the_pen (new_seat j.id j.opening (made_at k n) k) (get_or ts k d).pen (subst (λ x. IsSamePen x (get_or ts k d).pen) (pen k d low) (each k d (omega arith)).kept.pen) in
    let mapped = length-map ts pen_of in
    let there : map Some left ≡ map pen_of ts = ap (map Some) left_is ∙ all-there (map pen_of ts) (λ k low.
    let inside : k < length ts = omega arith in
    let a = at_place pen_of ts k inside in
    let t = back k a.0 inside in
    (t.0, a.2 None ∙ ap pen_of (sym (a.1 a.0)) ∙ t.1)) in
    let total : length left ≡ length ts = sym (length-map left Some) ∙ ap length there ∙ mapped in
    let left_at : (k : ℕ) (d : PenView) (f : Worker O D) → k < length ts → Some (get_or left k d) ≡ (get_or ts k f).pen = λ k d f low.
    sym (get_or-map Some left k d (Some d) (omega arith)) ∙ ap (λ l. get_or l k (Some d)) there ∙ (at_place pen_of ts k low).2 (Some d) ∙ ap pen_of (sym ((at_place pen_of ts k low).1 f)) in
    let same_at : (k : ℕ) (d : PenView) (f : Worker O D) → k < length ts → IsSameSeat (new_seat j.id j.opening (made_at k n) k) (get_or left k d) = λ k d f low.
    let t = back k f low in subst (λ (s : PenView). IsSameSeat (new_seat j.id j.opening (made_at k n) k) s) (inner (sym (left_at k d f low ∙ t.1))) t.2 in
    let worker_at : (k : ℕ) → k < length ts → Worker O D = λ k low. (at_place pen_of ts k low).0 in
    record {
      same = refl;
      all =
          record {
            some = omega arith;
            of = λ k d low. let i : k < length ts = omega arith in let s = same_at k d (worker_at k i) i in record { lock = s.lock; opening = s.opening };
            number = λ k d low. let i : k < length ts = omega arith in (same_at k d (worker_at k i) i).number;
            made = λ k d low. let i : k < length ts = omega arith in (same_at k d (worker_at k i) i).made ∙ ap (made_at k) (omega arith);
          };
      count = omega arith;
      broken_is = broken_is ∙ ap first_some (same-map broken_of (λ (t : Worker O D). failure_in (written_by t.pen)) ts (λ k d low. (each k d (omega arith)).kept.broken)
          ∙ sym (map-of (λ x. failure_in (written_by x)) pen_of ts) ∙ ap (map (λ x. failure_in (written_by x))) (sym there) ∙ map-of (λ x. failure_in (written_by x)) Some left);
      written =
          record {
            each = λ k d low.
                let i : k < length ts = omega arith in
                let f = worker_at k i in
                let seats = at_place seat_of ts k i in
                let own : calls_of k closing.history ≡ (get_or ts k f).seat.mine =
                calls k (get_or ts k f).seat (let l = ap length ends_are in let m = length-map ts seat_of in omega arith) ∙ ap (λ (l : List (SeatView Entry Opening)). (get_or l k (get_or ts k f).seat).mine) ends_are
                ∙ ap (λ (s : SeatView Entry Opening). s.mine) (seats.2 (get_or ts k f).seat ∙ ap seat_of (sym (seats.1 f))) in
                subst (λ m. HasWritten true m (get_or left k d).mine) (sym own)
                (subst (λ x. HasWritten true (get_or ts k f).seat.mine (written_by x)) (sym (left_at k d f i)) (each k f (omega arith)).kept.written);
          };
    }
  where
    inner : {A : Type 0} {x y : A} → Some x ≡ Some y → x ≡ y
    inner e = cc

-- ---- pens before and after

-- there are no more than workers
pub few_pens : (o : Opening) (j : Option JournalView) (pens : List PenView) → ArePensFor o j pens → length pens ≤ o.workers
few_pens o None pens none = let size = ap length none in omega arith
few_pens o (Some j) pens ready = let count = ready.all.count_is in omega arith

same_count : (xs ys : List (Option PenView)) → length ys ≡ length xs → ((k : ℕ) (d e : Option PenView) → k < length xs → IsSamePen (get_or xs k d) (get_or ys k e)) → length (all_some ys) ≡ length (all_some xs)
same_count [] [] size each = refl
same_count [] (y ∷ ys) size each = absurd (omega (arith, size))
same_count (x ∷ xs) [] size each = absurd (omega (arith, size))
same_count (None ∷ xs) (None ∷ ys) size each = same_count xs ys (omega (arith, size)) (λ k d e low. each (suc k) d e (omega arith))
same_count (None ∷ xs) (Some y ∷ ys) size each = absurd (each 0 None None (omega arith))
same_count (Some x ∷ xs) (None ∷ ys) size each = absurd (each 0 None None (omega arith))
same_count (Some x ∷ xs) (Some y ∷ ys) size each = ap suc (same_count xs ys (omega (arith, size)) (λ k d e low. each (suc k) d e (omega arith)))

-- as many come back as were handed out
pub back_few : {O D : Type 0} (pens : List PenView) (n : ℕ) (ws ts : List (Worker O D)) → length ts ≡ length ws → map pen_of ws ≡ one_each n pens
    → ((k : ℕ) (d : Worker O D) → k < length ws → IsSamePen (get_or ws k d).pen (get_or ts k d).pen) → length (all_some (map pen_of ts)) ≤ length pens
back_few pens n ws ts size are each =
    let old = length-map ws pen_of in
    let new = length-map ts pen_of in
    let same = same_count (map pen_of ws) (map pen_of ts) (omega arith) (λ k d e low.
    let i : k < length ws = omega arith in
    let t = at_place pen_of ts k (omega arith) in
    let w = at_place pen_of ws k i in
    subst (λ x. IsSamePen x (get_or (map pen_of ts) k e)) (sym (w.2 d ∙ ap pen_of (sym (w.1 t.0)))) (subst (IsSamePen (get_or ws k t.0).pen) (sym (t.2 e ∙ ap pen_of (sym (t.1 t.0)))) (each k t.0 i))) in
    let few = few-each n pens in
    let all = ap (λ l. length (all_some l)) are in
    omega arith

-- ---- what comes back

-- new seats are all seats
new_are_all : (j : JournalView) (n : ℕ) (pens : List PenView) → 0 < n → AreNew j n pens → AreAll j pens
new_are_all j n pens some new =
    let count = new.count_is in
    record {
      some = omega arith;
      of = λ k d low. subst (IsSeatOf j) (sym (new.each k d low)) record { lock = refl; opening = refl };
      number = λ k d low. ap (λ (s : PenView). s.number) (new.each k d low);
      made = λ k d low. ap (λ (s : PenView). s.made) (new.each k d low) ∙ ap (made_at k) (sym count);
    }

none_among : (j : JournalView) (n : ℕ) (pens : List PenView) → AreNew j n pens → failure_among pens ≡ None
none_among j n pens new =
    ap first_some (same-map (λ (s : PenView). failure_in s.mine) (λ s. None) pens (λ k d low. ap (λ (s : PenView). failure_in s.mine) (new.each k d low))) ∙ none-first pens

-- a journal that comes back
pub kept_back : (o : Opening) (j : JournalView) (pens left : List PenView) (ended : Result (Ended × Option ℕ) AllocError) (closing : Option Closing) (broken : Option ℕ) → 0 < o.workers → IsReady o j pens
    → IfOk ended (λ e. TellsPens o (Some j) pens e.0.closing e.1 left) → IfErr ended (λ _. left ≡ pens) → IfOk ended (λ e. (closing ≡ Some e.0.closing) × (broken ≡ e.1)) → IfErr ended (λ _. (closing ≡ None) × (broken ≡ None))
    → IsKept o j pens closing broken j left
kept_back o j pens left (Ok e) closing broken some ready told same closed memory =
    subst (λ c. IsKept o j pens c broken j left) (sym closed.0) (subst (λ b. IsKept o j pens (Some e.0.closing) b j left) (sym closed.1) told)
kept_back o j pens left (Err e) closing broken some ready told same closed memory =
    let count = ready.all.count_is in
    let size = ap length same in
    subst (λ c. IsKept o j pens c broken j left) (sym memory.0)
    record {
      same = refl;
      all = subst (AreAll j) (sym same) (new_are_all j o.workers pens some ready.all);
      count = omega arith;
      broken_is = memory.1 ∙ sym (none_among j o.workers pens ready.all) ∙ ap failure_among (sym same);
      written = same;
    }

-- nothing failed where there was none
pub none_kept : (o : Opening) (pens left : List PenView) (ended : Result (Ended × Option ℕ) AllocError) (closing : Option Closing) (broken : Option ℕ)
    → IfOk ended (λ e. TellsPens o None pens e.0.closing e.1 left) → IfOk ended (λ e. (closing ≡ Some e.0.closing) × (broken ≡ e.1)) → IfErr ended (λ _. (closing ≡ None) × (broken ≡ None)) → broken ≡ None
none_kept o pens left (Ok e) closing broken told closed memory = closed.1 ∙ told
none_kept o pens left (Err e) closing broken told closed memory = memory.1

-- a journal is there where one was given
pub parts_there : {V : Type 0} (P : Type 0) (given : Option (JournalView × V)) (j : Option JournalView) (pens : V) → IfSome given (λ x. (j ≡ Some x.0) × (pens ≡ x.1)) → IfNone given ((j ≡ None) × P) → is_some j ≡ is_some given
parts_there P None j pens is none = ap is_some none.0
parts_there P (Some x) j pens is none = ap is_some is.0

err_items : {V T E : Type 0} (items : V → List PenView) (left pens : V) (r : Result T E) → IfErr r (λ _. left ≡ pens) → IfErr r (λ _. items left ≡ items pens)
err_items items left pens (Ok t) same = tt
err_items items left pens (Err e) same = ap items same

-- of a journal that was given, or of none: what comes back
pub told_back : {V : Type 0} (items : V → List PenView) (o : Opening) (given back : Option (JournalView × V)) (j : Option JournalView) (pens left : V) (ended : Result (Ended × Option ℕ) AllocError) (closing : Option Closing) (broken : Option ℕ)
    → 0 < o.workers → IfSome given (λ x. IsReady o x.0 (items x.1)) → IfSome given (λ x. (j ≡ Some x.0) × (pens ≡ x.1)) → IfNone given ((j ≡ None) × (items pens ≡ []))
    → IfOk ended (λ e. TellsPens o j (items pens) e.0.closing e.1 (items left)) → IfErr ended (λ _. left ≡ pens) → IfOk ended (λ e. (closing ≡ Some e.0.closing) × (broken ≡ e.1))
    → IfErr ended (λ _. (closing ≡ None) × (broken ≡ None)) → back ≡ option_map (λ k. (k, left)) j → TellsKept o (option_map (λ x. (x.0, items x.1)) given) closing broken (option_map (λ x. (x.0, items x.1)) back)
told_back items o None back j pens left ended closing broken some ready is none told same closed memory comes =
    let empty : back ≡ None = comes ∙ ap (option_map (λ k. (k, left))) none.0 in (
      ap (option_map (λ x. (x.0, items x.1))) empty,
      none_kept o (items pens) (items left) ended closing broken (subst (λ i. IfOk ended (λ e. TellsPens o i (items pens) e.0.closing e.1 (items left))) none.0 told) closed memory,
    )
told_back items o (Some (k, given)) back j pens left ended closing broken some ready is none told same closed memory comes =
    let full : back ≡ Some (k, left) = comes ∙ ap (option_map (λ i. (i, left))) is.0 in
    let seats : items pens ≡ items given = ap items is.1 in
    subst (λ b. TellsKept o (Some (k, items given)) closing broken (option_map (λ x. (x.0, items x.1)) b)) (sym full)
    (kept_back o k (items given) (items left) ended closing broken some ready
    (subst (λ l. IfOk ended (λ e. TellsPens o (Some k) l e.0.closing e.1 (items left))) seats (subst (λ i. IfOk ended (λ e. TellsPens o i (items pens) e.0.closing e.1 (items left))) is.0 told))
    (subst (λ l. IfErr ended (λ _. items left ≡ l)) seats (err_items items left pens ended same)) closed memory)
