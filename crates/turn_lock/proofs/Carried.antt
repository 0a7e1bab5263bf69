-- What each step leaves as it was: the seats that do not take it, and the seat's own knowledge.
use Rattle.std.proofs.Common.{◌≡◌, ℕ, ◌+◌, ◌<◌, ◌≤◌, ◌≢◌, List, [], ◌∷◌, length, set, Option, refl, sym, ap, ◌∙◌, subst, ⊎_elim, arith}
use Rattle.std.proofs.lemmas.List.Elements.{All-weaker}
use mathlib.Core.Option.{some, none, some-injective, some-ne-none}
use mathlib.Core.Option as maybe
use mathlib.Core.List.{IsPrefix}
use mathlib.Core.Logic.{dite}
use native.Mathlib.Decide.{ℕ_discrete}
use lib.ListN.{get_elem?}
use Rattle.atomic_table.proofs.Lists.{at_set, set_here, set_else}
use Rattle.turn_lock.specs.declared.view.Stage.{Stage}
use Rattle.turn_lock.specs.declared.view.Stage.TheVariants.{Idle, Waits, Holds, Spent}
use Rattle.turn_lock.specs.declared.view.View.{View}
use Rattle.turn_lock.specs.Calls.{calls_by}
use Rattle.turn_lock.specs.Rule.{ticket_of, IsSpentAt, IsRightNote, HasPlace, IsRight, IsOut, HasSeen, IsSeen}
use Rattle.turn_lock.specs.Moves.{at_stage}
use Rattle.turn_lock.specs.Seats.{made_at}
use Rattle.turn_lock.proofs.Beginnings.{begins_through}
use Rattle.turn_lock.proofs.Places.{one_value, within}

module _ {E O : Type 0} where
  -- no two places of the list have the same ticket
  abbrev pub Apart : List (View E O) → Type 0
  Apart views = (i j : ℕ) (v w : View E O) (t : ℕ) → get_elem? views i ≡ some v → get_elem? views j ≡ some w → ticket_of v.stage ≡ some t → ticket_of w.stage ≡ some t → i ≡ j

  -- what holds of the new view, and of each other one, holds of all
  pub of_each : (P : ℕ → View E O → Type 0) (vs : List (View E O)) (id : ℕ) (w : View E O) → P id w → ((j : ℕ) (u : View E O) → j ≢ id → get_elem? vs j ≡ some u → P j u)
      → (j : ℕ) (u : View E O) → get_elem? (set vs id w) j ≡ some u → P j u
  of_each P vs id w mine others j u e = ⊎_elim (λ (t : (j ≡ id) × (w ≡ u)). subst (λ (x : ℕ × View E O). P x.0 x.1) (λ i. (sym t.0 i, t.1 i)) mine)
      (λ (t : (j ≢ id) × (get_elem? vs j ≡ some u)). others j u t.0 t.1) (at_set vs id j w u e)

  -- the new view's ticket is no other view's
  pub still_apart : (vs : List (View E O)) (id : ℕ) (w : View E O) → Apart vs
      → ((j : ℕ) (u : View E O) (t : ℕ) → j ≢ id → get_elem? vs j ≡ some u → ticket_of u.stage ≡ some t → ticket_of w.stage ≡ some t → ⊥)
      → Apart (set vs id w)
  still_apart vs id w old none_such i j a b t p q x y = ⊎_elim
      (λ (l : (i ≡ id) × (w ≡ a)). ⊎_elim (λ (r : (j ≡ id) × (w ≡ b)). l.0 ∙ sym r.0)
      (λ (r : (j ≢ id) × (get_elem? vs j ≡ some b)). absurd (none_such j b t r.0 r.1 y (ap (λ (z : View E O). ticket_of z.stage) l.1 ∙ x))) (at_set vs id j w b q))
      (λ (l : (i ≢ id) × (get_elem? vs i ≡ some a)). ⊎_elim (λ (r : (j ≡ id) × (w ≡ b)). absurd (none_such i a t l.0 l.1 x (ap (λ (z : View E O). ticket_of z.stage) r.1 ∙ y)))
      (λ (r : (j ≢ id) × (get_elem? vs j ≡ some b)). old i j a b t l.1 r.1 x y) (at_set vs id j w b q))
      (at_set vs id i w a p)

  -- a spent seat stays spent, and is another one
  pub spent_stays : (vs : List (View E O)) (id : ℕ) (v w : View E O) → get_elem? vs id ≡ some v → v.stage ≢ Spent → (k : ℕ) → IsSpentAt vs k → IsSpentAt (set vs id w) k × (k ≢ id)
  spent_stays vs id v w at live k s = let apart : k ≢ id = λ e. live (ap (λ (z : View E O). z.stage) (one_value vs id k v s.0 at s.1 (sym e)) ∙ s.2) in
      ((s.0, set_else vs id k w apart ∙ s.1, s.2), apart)

  -- the seat that has the book out is another one
  pub out_stays : (vs : List (View E O)) (id n : ℕ) (v w : View E O) → get_elem? vs id ≡ some v → v.stage ≢ Holds n → IsOut n vs → IsOut n (set vs id w)
  out_stays vs id n v w at not o = let apart : o.0 ≢ id = λ e. not (ap (λ (z : View E O). z.stage) (one_value vs id o.0 v o.1 at o.2 (sym e)) ∙ o.3) in
      (o.0, o.1, set_else vs id o.0 w apart ∙ o.2, o.3)

  -- who has seen the whole history still has
  pub seen_stays : (log : List E) (vs : List (View E O)) (id : ℕ) (v w : View E O) → get_elem? vs id ≡ some v → w.stage ≢ Spent → (HasSeen log v → HasSeen log w) → IsSeen log vs → IsSeen log (set vs id w)
  seen_stays log vs id v w at live keeps l = dite (ℕ_discrete l.0 id)
      (λ e. let f : l.1 ≡ v = one_value vs l.0 id l.1 v l.2 at e in (id, w, set_here vs id w (within vs id v at), live, keeps (subst (HasSeen log) f l.4)))
      (λ other. (l.0, l.1, set_else vs id l.0 w other ∙ l.2, l.3, l.4))

module _ {B E O : Type 0} (caller : E → ℕ) (start : O) where
  -- a seat that is right stays so while the history goes on without it
  pub carried : (t t' n n' : ℕ) (hs hs' : List (maybe.Option (Option B))) (log log' : List E) (vs vs' : List (View E O)) (j : ℕ) (u : View E O)
      → IsRight caller start t n hs log vs j u → IsPrefix log log' → calls_by caller j log' ≡ calls_by caller j log
      → u.made ≡ made_at j (length vs')
      → ((k : ℕ) → IsSpentAt vs k → IsSpentAt vs' k × (calls_by caller k log' ≡ calls_by caller k log))
      → HasPlace t' n' hs' log' u.seen u.stage
      → IsRight caller start t' n' hs' log' vs' j u
  carried t t' n n' hs hs' log log' vs vs' j u k goes_on same made spends place = record {
    number = k.number;
    made = made;
    opening = k.opening;
    seen = begins_through _ _ _ k.seen goes_on;
    own = k.own;
    all = same ∙ k.all;
    place = place;
    notes = All-weaker (IsRightNote caller start log vs) (IsRightNote caller start log' vs')
        (λ m x. record { opening = x.opening; seen = begins_through _ _ _ x.seen goes_on; all = (spends m.number x.spent).1 ∙ x.all; spent = (spends m.number x.spent).0 }) u.joined k.notes;
  }

  pub restaged : (t n : ℕ) (hs : List (maybe.Option (Option B))) (log : List E) (vs : List (View E O)) (j : ℕ) (v : View E O) (st : Stage) → IsRight caller start t n hs log vs j v → HasPlace t n hs log v.seen st → IsRight caller start t n hs log vs j (at_stage v st)
  restaged t n hs log vs j v st k place = record { number = k.number; made = k.made; opening = k.opening; seen = k.seen; own = k.own; all = k.all; place = place; notes = k.notes }

module _ {B E : Type 0} where
  -- a ticket lies between the two words
  pub in_range : (t n : ℕ) (hs : List (maybe.Option (Option B))) (log seen : List E) (st : Stage) (x : ℕ) → HasPlace t n hs log seen st → ticket_of st ≡ some x → (n ≤ x) × (x < t)
  in_range t n hs log seen Idle x d e = absurd (some-ne-none x (sym e))
  in_range t n hs log seen (Waits y) x d e = let same = some-injective y x e in let a = d.0 in let b = d.1 in (omega arith, omega arith)
  in_range t n hs log seen (Holds y) x d e = let same = some-injective y x e in let a = d.0 in let b = d.1 in (omega arith, omega arith)
  in_range t n hs log seen Spent x d e = absurd (some-ne-none x (sym e))

  -- a draw takes no one's place
  pub place_after_draw : (t n : ℕ) (hs : List (maybe.Option (Option B))) (log seen : List E) (st : Stage) → HasPlace t n hs log seen st → HasPlace (t + 1) n hs log seen st
  place_after_draw t n hs log seen Idle d = d
  place_after_draw t n hs log seen (Waits y) d = let b = d.1 in (d.0, omega arith)
  place_after_draw t n hs log seen (Holds y) d = let b = d.1 in (d.0, omega arith, d.2, d.3)
  place_after_draw t n hs log seen Spent d = d

  -- nor does the look that takes the book, since it was home
  pub place_after_look : (t n : ℕ) (hs hs' : List (maybe.Option (Option B))) (log seen : List E) (st : Stage) → hs ≢ none ∷ [] → HasPlace t n hs log seen st → HasPlace t n hs' log seen st
  place_after_look t n hs hs' log seen Idle home d = d
  place_after_look t n hs hs' log seen (Waits y) home d = d
  place_after_look t n hs hs' log seen (Holds y) home d = absurd (home d.3)
  place_after_look t n hs hs' log seen Spent home d = d

  -- nor does a pass, for those with another ticket
  pub place_after_pass : (t n : ℕ) (hs hs' : List (maybe.Option (Option B))) (log log' seen : List E) (st : Stage) → ((x : ℕ) → ticket_of st ≡ some x → x ≢ n) → HasPlace t n hs log seen st → HasPlace t (n + 1) hs' log' seen st
  place_after_pass t n hs hs' log log' seen Idle not d = d
  place_after_pass t n hs hs' log log' seen (Waits y) not d = let a = d.0 in let b = not y refl in (omega arith, d.1)
  place_after_pass t n hs hs' log log' seen (Holds y) not d = absurd (not y refl d.0)
  place_after_pass t n hs hs' log log' seen Spent not d = d
