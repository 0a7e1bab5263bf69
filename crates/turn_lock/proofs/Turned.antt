-- The steps of a turn keep the rule: draw, look, pass.
use Rattle.std.proofs.Common.{◌≡◌, ℕ, ◌+◌, ◌^◌, ◌<◌, ◌≤◌, ◌≢◌, ◌==◌, Bool, false, cond, List, [], ◌∷◌, ◌++◌, length, get_or, set, count_by, All, Option, Some, sym, refl, ap, ◌∙◌, subst, inl, inr, ⊎_elim, arith, length-set, length-append, append-nil, true≢false, ne_eqb}
use Rattle.std.proofs.lemmas.List.Elements.{All-weaker, All-append, All-cons, All-nil, filter-append}
use mathlib.Core.Option.{some, none, some-injective, some-ne-none}
use mathlib.Core.Option as maybe
use mathlib.Core.List.{IsPrefix}
use lib.ListN.{get_elem?}
use Rattle.atomic_table.proofs.Lists.{set_here}
use Rattle.turn_lock.specs.declared.view.Stage.TheVariants.{Idle, Waits, Holds, Spent}
use Rattle.turn_lock.specs.declared.view.View.{View}
use Rattle.turn_lock.specs.Calls.{calls_by}
use Rattle.turn_lock.specs.Rule.{ticket_of, has_ticket, is_in_turn, IsSpentAt, IsRightNote, HasPlace, IsRight, IsHome, IsOut, Between}
use Rattle.turn_lock.specs.Moves.{at_stage, holding, after_turn, GoesOn}
use Rattle.turn_lock.specs.Seats.{made_at}
use Rattle.turn_lock.proofs.Beginnings.{begins_itself, begins_through}
use Rattle.turn_lock.proofs.Places.{one_value, within, recount, is_out, lives_idle, lives_with}
use Rattle.turn_lock.proofs.Carried.{of_each, still_apart, spent_stays, out_stays, seen_stays, carried, restaged, in_range, place_after_draw, place_after_look, place_after_pass}

module _ {B E O : Type 0} (caller : E → ℕ) (legal : O → List E → Type 0) (history : B → List E) (opening : B → O) (start : O) where
  abbrev V : Type 0
  V = View E O

  abbrev H : Type 0
  H = List (maybe.Option (Option B))

  abbrev Rule : ℕ → ℕ → H → List V → Type 0
  Rule = Between caller legal history opening start

  abbrev Right : ℕ → ℕ → H → List E → List V → ℕ → V → Type 0
  Right = IsRight caller start

  -- a ticket that a seat has lies between the two words
  ticket_within : (t n : ℕ) (hs : H) (vs : List V) (c : Rule t n hs vs) (j : ℕ) (u : V) (x : ℕ) → get_elem? vs j ≡ some u → ticket_of u.stage ≡ some x → (n ≤ x) × (x < t)
  ticket_within t n hs vs c j u x here e = in_range t n hs c.log u.seen u.stage x (c.seats j u here (lives_with u.stage x e)).place e

  -- draw: the seat's ticket is the next one, so it is above all others, and one more seat is in a turn
  pub draw_keeps : (t n : ℕ) (hs : H) (vs : List V) (id : ℕ) (v : V) → Rule t n hs vs → get_elem? vs id ≡ some v → v.stage ≡ Idle → Rule (t + 1) n hs (set vs id (at_stage v (Waits t)))
  draw_keeps t n hs vs id v c at idle =
      let w : V = at_stage v (Waits t) in
      let vs' : List V = set vs id w in
      let live : v.stage ≢ Spent = lives_idle v.stage idle in
      let long : length vs' ≡ length vs = length-set vs id w in
      let k = c.seats id v at live in
      let spends : (k : ℕ) → IsSpentAt vs k → IsSpentAt vs' k × (calls_by caller k c.log ≡ calls_by caller k c.log) = λ k s. ((spent_stays vs id v w at live k s).0, refl) in
      let count : count_by is_in_turn vs' + 0 ≡ count_by is_in_turn vs + 1 = subst (λ (b : Bool). count_by is_in_turn vs' + cond b 1 0 ≡ count_by is_in_turn vs + 1) (ap has_ticket idle) (recount is_in_turn vs id v w at) in
      let d : t ≡ n + count_by is_in_turn vs = c.drawn in
      let serving_within : n ≤ t = omega arith in
      let now : (u : V) (j : ℕ) → Right t n hs c.log vs j u → HasPlace (t + 1) n hs c.log u.seen u.stage → Right (t + 1) n hs c.log vs' j u =
      λ u j q place. carried caller start t (t + 1) n n hs hs c.log c.log vs vs' j u q (begins_itself c.log) refl (q.made ∙ ap (made_at j) (sym long)) spends place in
      record {
        log = c.log;
        is_legal = c.is_legal;
        longest = seen_stays c.log vs id v w at (lives_with w.stage t refl) (λ h. h) c.longest;
        served = c.served;
        short = c.short;
        few = subst (λ (k : ℕ). k ≤ 2 ^ 32) (sym long) c.few;
        drawn = omega arith;
        apart = still_apart vs id w c.apart (λ j u x other here e mine. let r = ticket_within t n hs vs c j u x here e in let same : t ≡ x = some-injective t x mine in omega (arith, r.1));
        named = subst (λ (k : ℕ). All (λ e. caller e < k) c.log) (sym long) c.named;
        seats = of_each (λ j u. u.stage ≢ Spent → Right (t + 1) n hs c.log vs' j u) vs id w
            (λ _. restaged caller start (t + 1) n hs c.log vs' id v (Waits t) (now v id k (place_after_draw t n hs c.log v.seen v.stage k.place)) (omega arith, omega arith))
            (λ j u other here alive. let q = c.seats j u here alive in now u j q (place_after_draw t n hs c.log u.seen u.stage q.place));
        book = ⊎_elim (λ h. inl h) (λ o. inr (out_stays vs id n v w at (λ e. true≢false (sym (ap is_out e) ∙ ap is_out idle)) o)) c.book;
      }

  abbrev pub Takes : ℕ → ℕ → H → List V → ℕ → V → Type 0
  Takes t n hs vs id v = (y : B) × (hs ≡ some (Some y) ∷ []) × Rule t n (none ∷ []) (set vs id (holding v n (history y))) × GoesOn caller history opening v y

  -- a look that finds the seat's own ticket: nobody else has it, so the book is home, and the seat takes it and sees its whole history
  pub look_keeps : (t n : ℕ) (hs : H) (vs : List V) (id : ℕ) (v : V) → Rule t n hs vs → get_elem? vs id ≡ some v → v.stage ≡ Waits n → Takes t n hs vs id v
  look_keeps t n hs vs id v c at waits = ⊎_elim
      (λ (home : IsHome history opening start hs c.log).
      let y : B = home.0 in
      let log : List E = history y in
      let same : history y ≡ c.log = home.2 in
      let w : V = holding v n (history y) in
      let vs' : List V = set vs id w in
      let live : v.stage ≢ Spent = lives_with v.stage n (ap ticket_of waits) in
      let long : length vs' ≡ length vs = length-set vs id w in
      let k = c.seats id v at live in
      let here_now : hs ≢ none ∷ [] = λ e. some-ne-none (Some y) (ap (λ (l : H). get_or l 0 none) (sym home.1 ∙ e)) in
      let spends : (k : ℕ) → IsSpentAt vs k → IsSpentAt vs' k × (calls_by caller k c.log ≡ calls_by caller k c.log) = λ k s. ((spent_stays vs id v w at live k s).0, refl) in
      let count : count_by is_in_turn vs' + 1 ≡ count_by is_in_turn vs + 1 = subst (λ (b : Bool). count_by is_in_turn vs' + cond b 1 0 ≡ count_by is_in_turn vs + 1) (ap has_ticket waits) (recount is_in_turn vs id v w at) in
      let d : t ≡ n + count_by is_in_turn vs = c.drawn in
      let now : (u : V) (j : ℕ) → Right t n hs c.log vs j u → Right t n (none ∷ []) c.log vs' j u =
      λ u j q. carried caller start t t n n hs (none ∷ []) c.log c.log vs vs' j u q (begins_itself c.log) refl (q.made ∙ ap (made_at j) (sym long)) spends (place_after_look t n hs (none ∷ []) c.log u.seen u.stage here_now q.place) in
      let mine = now v id k in
      let range = ticket_within t n hs vs c id v n at (ap ticket_of waits) in
      let named_own : calls_by caller v.number v.seen ≡ v.mine = ap (λ (z : ℕ). calls_by caller z v.seen) k.number ∙ k.own in (
        y,
        home.1,
        record {
          log = c.log;
          is_legal = c.is_legal;
          longest = (id, w, set_here vs id w (within vs id v at), lives_with w.stage n refl, inl same);
          served = c.served;
          short = c.short;
          few = subst (λ (k : ℕ). k ≤ 2 ^ 32) (sym long) c.few;
          drawn = omega arith;
          apart = still_apart vs id w c.apart (λ j u x other here e is. other (c.apart j id u v x here at e (ap ticket_of waits ∙ is)));
          named = subst (λ (k : ℕ). All (λ e. caller e < k) c.log) (sym long) c.named;
          seats = of_each (λ j u. u.stage ≢ Spent → Right t n (none ∷ []) c.log vs' j u) vs id w
              (λ _. record {
                number = mine.number;
                made = mine.made;
                opening = mine.opening;
                seen = subst (λ l. IsPrefix l c.log) (sym same) (begins_itself c.log);
                own = ap (calls_by caller id) same ∙ mine.all;
                all = mine.all;
                place = (refl, range.1, same, refl);
                notes = mine.notes;
              })
              (λ j u other here alive. now u j (c.seats j u here alive));
          book = inr (id, w, set_here vs id w (within vs id v at), refl);
        },
        (k.opening ∙ ap Some (sym home.3), subst (λ l. IsPrefix v.seen l) (sym same) k.seen, named_own, ap (λ (z : ℕ). calls_by caller z log) k.number ∙ (ap (calls_by caller id) same ∙ k.all)),
      ))
      (λ (o : IsOut n vs).
      let e : id ≡ o.0 = c.apart id o.0 v o.1 n at o.2 (ap ticket_of waits) (ap ticket_of o.3) in
      let f : v ≡ o.1 = one_value vs id o.0 v o.1 at o.2 e in
      absurd (true≢false (sym (ap is_out (ap (λ (z : V). z.stage) f ∙ o.3)) ∙ ap is_out waits)))
      c.book

  abbrev pub Gives : ℕ → ℕ → H → List V → ℕ → V → ℕ → B → Type 0
  Gives t n hs vs id v m y = (m ≡ n) × (hs ≡ none ∷ []) × Rule t (n + 1) (some (Some y) ∷ []) (set vs id (after_turn caller v (history y)))

  -- pass: the history is one entry longer, and it is the seat's own, so what all others know stays so
  pub pass_keeps : (t n : ℕ) (hs : H) (vs : List V) (id : ℕ) (v : V) (m : ℕ) (y : B) (e : E) → Rule t n hs vs → get_elem? vs id ≡ some v → v.stage ≡ Holds m
      → history y ≡ v.seen ++ e ∷ [] → caller e ≡ v.number → length (history y) < 2 ^ 63 → v.opening ≡ Some (opening y) → legal (opening y) (history y) → Gives t n hs vs id v m y
  pass_keeps t n hs vs id v m y e c at holds hist by short opened legal_now =
      let live : v.stage ≢ Spent = lives_with v.stage m (ap ticket_of holds) in
      let k = c.seats id v at live in
      let d : HasPlace t n hs c.log v.seen (Holds m) = subst (HasPlace t n hs c.log v.seen) holds k.place in
      let served : m ≡ n = d.0 in
      let log : List E = history y in
      let w : V = after_turn caller v log in
      let vs' : List V = set vs id w in
      let long : length vs' ≡ length vs = length-set vs id w in
      let more : log ≡ c.log ++ e ∷ [] = hist ∙ ap (λ (l : List E). l ++ e ∷ []) d.2 in
      let goes_on : IsPrefix c.log log = (e ∷ [], sym more) in
      let by_id : caller e ≡ id = by ∙ k.number in
      let others : (j : ℕ) → j ≢ id → calls_by caller j log ≡ calls_by caller j c.log = λ j other.
      let none_such : (caller e == j) ≡ false = ne_eqb (caller e) j (λ h. other (sym h ∙ by_id)) in
      ap (calls_by caller j) more ∙ (filter-append (λ x. caller x == j) c.log (e ∷ []) ∙ (ap (λ (b : Bool). calls_by caller j c.log ++ cond b (e ∷ []) []) none_such ∙ append-nil (calls_by caller j c.log))) in
      let spends : (k : ℕ) → IsSpentAt vs k → IsSpentAt vs' k × (calls_by caller k log ≡ calls_by caller k c.log) = λ k s. let r = spent_stays vs id v w at live k s in (r.0, others k r.1) in
      let not_mine : (j : ℕ) (u : V) → j ≢ id → get_elem? vs j ≡ some u → (x : ℕ) → ticket_of u.stage ≡ some x → x ≢ n = λ j u other here x is same.
      other (c.apart j id u v m here at (is ∙ ap some (same ∙ sym served)) (ap ticket_of holds)) in
      let count : count_by is_in_turn vs' + 1 ≡ count_by is_in_turn vs + 0 = subst (λ (b : Bool). count_by is_in_turn vs' + cond b 1 0 ≡ count_by is_in_turn vs + 0) (ap has_ticket holds) (recount is_in_turn vs id v w at) in
      let dr : t ≡ n + count_by is_in_turn vs = c.drawn in
      let size : length log ≡ length c.log + 1 = ap length more ∙ length-append c.log (e ∷ []) in
      let was : length c.log ≡ n = c.served in
      let low : id < length vs = within vs id v at in
      let same_start : opening y ≡ start = cc (opened, k.opening) in
      let right : legal start log = subst (λ (o : O). legal o log) same_start legal_now in (
        served,
        d.3,
        record {
          log = log;
          is_legal = right;
          longest = (id, w, set_here vs id w low, lives_idle w.stage refl, inl refl);
          served = omega arith;
          short = omega arith;
          few = subst (λ (k : ℕ). k ≤ 2 ^ 32) (sym long) c.few;
          drawn = omega arith;
          apart = still_apart vs id w c.apart (λ j u x other here is mine. some-ne-none x (sym mine));
          named = subst (λ (k : ℕ). All (λ x. caller x < k) log) (sym long) (subst (All (λ x. caller x < length vs)) (sym more)
              (All-append (λ x. caller x < length vs) c.log (e ∷ []) c.named (All-cons (λ x. caller x < length vs) e [] (omega arith) (All-nil (λ x. caller x < length vs)))));
          seats = of_each (λ j u. u.stage ≢ Spent → Right t (n + 1) (some (Some y) ∷ []) log vs' j u) vs id w
              (λ _. record {
                number = k.number;
                made = k.made ∙ ap (made_at id) (sym long);
                opening = k.opening;
                seen = begins_itself log;
                own = ap (λ (z : ℕ). calls_by caller z log) (sym k.number);
                all = ap (λ (z : ℕ). calls_by caller z log) (sym k.number);
                place = tt;
                notes = All-weaker (IsRightNote caller start c.log vs) (IsRightNote caller start log vs')
                    (λ m x. record { opening = x.opening; seen = begins_through _ _ _ x.seen goes_on; all = (spends m.number x.spent).1 ∙ x.all; spent = (spends m.number x.spent).0 }) v.joined k.notes;
              })
              (λ j u other here alive. let q = c.seats j u here alive in
              carried caller start t t n (n + 1) hs (some (Some y) ∷ []) c.log log vs vs' j u q goes_on (others j other) (q.made ∙ ap (made_at j) (sym long)) spends
              (place_after_pass t n hs (some (Some y) ∷ []) c.log log u.seen u.stage (not_mine j u other here) q.place));
          book = inl (y, refl, refl, same_start);
        },
      )
