-- The steps that make and join seats keep the rule, and what it says when one seat is left.
use Rattle.std.proofs.Common.{◌≡◌, ℕ, ◌+◌, ◌-◌, ◌^◌, ◌<◌, ◌≤◌, ◌≢◌, ◌==◌, Bool, false, cond, List, [], ◌∷◌, ◌++◌, length, get_or, set, count_by, All, Option, Some, sym, refl, ap, ◌∙◌, subst, inl, inr, ⊎_elim, arith, length-set, length-append, true≢false, ne_eqb}
use Rattle.std.proofs.lemmas.List.Sums.{sum_by-append}
use Rattle.std.proofs.lemmas.List.Elements.{All-weaker, All-cons, All-nil, All-head, All-tail}
use mathlib.Core.Option.{some, none, some-ne-none}
use mathlib.Core.Option as maybe
use mathlib.Core.List.{IsPrefix}
use mathlib.Core.Logic.{dite}
use native.Mathlib.Decide.{ℕ_discrete}
use lib.ListN.{get_elem?}
use Rattle.atomic_table.proofs.Lists.{set_here, set_else, at_longer}
use Rattle.turn_lock.specs.declared.view.Stage.TheVariants.{Idle, Holds, Spent}
use Rattle.turn_lock.specs.declared.view.Note.{Note}
use Rattle.turn_lock.specs.declared.view.View.{View}
use Rattle.turn_lock.specs.Calls.{calls_by}
use Rattle.turn_lock.specs.Rule.{ticket_of, has_ticket, is_in_turn, IsSpentAt, IsRightNote, IsRight, IsHome, IsOut, HasNote, HasSeen, Between}
use Rattle.turn_lock.specs.Moves.{first_view, elder, younger, note_at, taken_in, spent_view}
use Rattle.turn_lock.specs.Seats.{made_at}
use Rattle.turn_lock.proofs.Beginnings.{begins_itself}
use Rattle.turn_lock.proofs.Places.{one_value, within, recount, old_or_last, only_place, is_spent, is_out, lives_idle, first_knows, later_knows_nothing, others_know_nothing}
use Rattle.turn_lock.proofs.Carried.{of_each, still_apart, spent_stays, out_stays, seen_stays, carried}

-- a number that no seat has yet has made no call
calls_none : {E : Type 0} (caller : E → ℕ) (k : ℕ) (log : List E) → All (λ e. caller e < k) log → calls_by caller k log ≡ []
calls_none caller k [] below = refl
calls_none caller k (e ∷ es) below =
    let first : caller e < k = All-head (λ x. caller x < k) e es below in
    let other : (caller e == k) ≡ false = ne_eqb (caller e) k (λ h. omega arith) in
    ap (λ (b : Bool). cond b (e ∷ calls_by caller k es) (calls_by caller k es)) other ∙ calls_none caller k es (All-tail (λ x. caller x < k) e es below)

-- what a seat knew is so of the history
pub record IsSoOf {E O : Type 0} (caller : E → ℕ) (log : List E) (m : Note E O) : Type 0 where
  pub seen : IsPrefix m.seen log
  pub all : calls_by caller m.number log ≡ m.mine

-- what is left of a table whose one seat took in all others
pub record Leaves {B E O : Type 0} (caller : E → ℕ) (legal : O → List E → Type 0) (history : B → List E) (opening : B → O) (start : O) (y : B) (v : View E O) : Type 0 where
  pub opening_is : opening y ≡ start
  pub is_legal : legal start (history y)
  pub last : IsSoOf caller (history y) (note_at v)
  pub others : All (IsSoOf caller (history y)) v.joined
  pub named : All (λ e. caller e < v.made) (history y)

module _ {B E O : Type 0} (caller : E → ℕ) (legal : O → List E → Type 0) (history : B → List E) (opening : B → O) (start : O) where
  abbrev V : Type 0
  V = View E O

  abbrev H : Type 0
  H = List (maybe.Option (Option B))

  abbrev Rule : ℕ → ℕ → H → List V → Type 0
  Rule = Between caller legal history opening start

  abbrev Right : ℕ → ℕ → H → List E → List V → ℕ → V → Type 0
  Right = IsRight caller start

  -- a new table: one seat, and a book without entries
  pub first_keeps : (y : B) → history y ≡ [] → opening y ≡ start → legal start [] → Rule 0 0 (some (Some y) ∷ []) (first_view start ∷ [])
  first_keeps y empty is legal_now = record {
    log = [];
    is_legal = legal_now;
    longest = (0, first_view start, refl, lives_idle Idle refl, inl refl);
    served = refl;
    short = omega arith;
    few = omega arith;
    drawn = refl;
    apart = λ i j v w t p q e f. (only_place (first_view start) v i p).0 ∙ sym (only_place (first_view start) w j q).0;
    named = All-nil (λ e. caller e < 1);
    seats = λ j v here alive. let o = only_place (first_view start) v j here in subst (λ (z : ℕ × V). Right 0 0 (some (Some y) ∷ []) [] (first_view start ∷ []) z.0 z.1) (λ i. (sym o.0 i, o.1 i)) record {
      number = refl;
      made = refl;
      opening = refl;
      seen = ([], refl);
      own = refl;
      all = refl;
      place = tt;
      notes = All-nil (IsRightNote caller start [] (first_view start ∷ []));
    };
    book = inl (y, refl, empty, is);
  }

  -- split: the new seat's number is its place, which names no entry yet
  pub split_keeps : (t n : ℕ) (hs : H) (vs : List V) (id : ℕ) (v : V) → Rule t n hs vs → get_elem? vs id ≡ some v → v.stage ≡ Idle → 0 < v.made → v.made < 2 ^ 32
      → Rule t n hs (set vs id (elder v) ++ younger v ∷ [])
  split_keeps t n hs vs id v c at idle some_made few =
      let w : V = elder v in
      let x : V = younger v in
      let vs₁ : List V = set vs id w in
      let vs' : List V = vs₁ ++ x ∷ [] in
      let live : v.stage ≢ Spent = lives_idle v.stage idle in
      let long₁ : length vs₁ ≡ length vs = length-set vs id w in
      let long : length vs' ≡ length vs + 1 = length-append vs₁ (x ∷ []) ∙ ap (λ (z : ℕ). z + 1) long₁ in
      let k = c.seats id v at live in
      let first = first_knows id (length vs) v.made k.made some_made in
      let is_first : id ≡ 0 = first.0 in
      let all_made : v.made ≡ length vs = first.1 in
      let low : id < length vs = within vs id v at in
      let spends : (k : ℕ) → IsSpentAt vs k → IsSpentAt vs' k × (calls_by caller k c.log ≡ calls_by caller k c.log) = λ k s. let r = (spent_stays vs id v w at live k s).0 in
      ((r.0, at_longer vs₁ (x ∷ []) k r.0 r.1, r.2), refl) in
      let count₁ : count_by is_in_turn vs₁ + 0 ≡ count_by is_in_turn vs + 0 = subst (λ (b : Bool). count_by is_in_turn vs₁ + cond b 1 0 ≡ count_by is_in_turn vs + cond b 1 0) (ap has_ticket idle) (recount is_in_turn vs id v w at) in
      let count : count_by is_in_turn vs' ≡ count_by is_in_turn vs₁ + 0 = sum_by-append (λ (u : V). cond (is_in_turn u) 1 0) vs₁ (x ∷ []) in
      let d : t ≡ n + count_by is_in_turn vs = c.drawn in
      let below : (e : E) → caller e < length vs → caller e < length vs' = λ e h. omega arith in
      let notes : (u : V) (j : ℕ) → Right t n hs c.log vs j u → All (IsRightNote caller start c.log vs') u.joined = λ u j q.
      All-weaker (IsRightNote caller start c.log vs) (IsRightNote caller start c.log vs') (λ m y. record { opening = y.opening; seen = y.seen; all = y.all; spent = (spends m.number y.spent).0 }) u.joined q.notes in
      let one_more : v.made + 1 ≡ made_at id (length vs') = subst (λ (z : ℕ). v.made + 1 ≡ made_at z (length vs')) (sym is_first) (omega arith) in
      let knows_nothing : 0 ≡ made_at (length vs₁) (length vs') = later_knows_nothing (length vs₁) (length vs') (omega arith) in
      record {
        log = c.log;
        is_legal = c.is_legal;
        longest = let r = seen_stays c.log vs id v w at (lives_idle w.stage idle) (λ h. h) c.longest in (r.0, r.1, at_longer vs₁ (x ∷ []) r.0 r.1 r.2, r.3, r.4);
        served = c.served;
        short = c.short;
        few = omega arith;
        drawn = omega arith;
        apart = λ i j a b y p q e f. ⊎_elim
            (λ (l : get_elem? vs₁ i ≡ some a). ⊎_elim
            (λ (r : get_elem? vs₁ j ≡ some b). still_apart vs id w c.apart (λ j u y other here e mine. other (c.apart j id u v y here at e mine)) i j a b y l r e f)
            (λ (r : (j ≡ length vs₁) × (x ≡ b)). absurd (some-ne-none y (sym f ∙ sym (ap (λ (z : V). ticket_of z.stage) r.1))))
            (old_or_last vs₁ x b j q))
            (λ (l : (i ≡ length vs₁) × (x ≡ a)). absurd (some-ne-none y (sym e ∙ sym (ap (λ (z : V). ticket_of z.stage) l.1))))
            (old_or_last vs₁ x a i p);
        named = All-weaker (λ e. caller e < length vs) (λ e. caller e < length vs') below c.log c.named;
        seats = λ j u here alive. ⊎_elim
            (λ (old : get_elem? vs₁ j ≡ some u). of_each (λ j u. u.stage ≢ Spent → Right t n hs c.log vs' j u) vs id w
            (λ _. record { number = k.number; made = one_more; opening = k.opening; seen = k.seen; own = k.own; all = k.all; place = k.place; notes = notes v id k })
            (λ j u other here alive. let q = c.seats j u here alive in
            record { number = q.number; made = q.made ∙ others_know_nothing j (length vs) (length vs') (λ e. other (e ∙ sym is_first)); opening = q.opening; seen = q.seen; own = q.own; all = q.all; place = q.place; notes = notes u j q })
            j u old alive)
            (λ (new : (j ≡ length vs₁) × (x ≡ u)). subst (λ (z : ℕ × V). Right t n hs c.log vs' z.0 z.1) (λ i. (sym new.0 i, new.1 i)) record {
              number = all_made ∙ sym long₁;
              made = knows_nothing;
              opening = k.opening;
              seen = (c.log, refl);
              own = refl;
              all = subst (λ (z : ℕ). calls_by caller z c.log ≡ []) (sym long₁) (calls_none caller (length vs) c.log c.named);
              place = tt;
              notes = All-nil (IsRightNote caller start c.log vs');
            })
            (old_or_last vs₁ x u j here);
        book = ⊎_elim (λ h. inl h) (λ o. let r = out_stays vs id n v w at (λ e. true≢false (sym (ap is_out e) ∙ ap is_out idle)) o in inr (r.0, r.1, at_longer vs₁ (x ∷ []) r.0 r.1 r.2, r.3)) c.book;
      }

  -- join: what the other seat knew is kept in a note, and it makes no more calls
  pub join_keeps : (t n : ℕ) (hs : H) (vs : List V) (id : ℕ) (v : V) (other : ℕ) (w : V) → Rule t n hs vs → get_elem? vs id ≡ some v → v.stage ≡ Idle → other ≢ id
      → get_elem? (set vs id (taken_in v w)) other ≡ some w → w.stage ≡ Idle → w.joined ≡ []
      → Rule t n hs (set (set vs id (taken_in v w)) other spent_view)
  join_keeps t n hs vs id v other w c at idle apart there₁ idle' bare =
      let v' : V = taken_in v w in
      let x : V = spent_view in
      let vs₁ : List V = set vs id v' in
      let vs' : List V = set vs₁ other x in
      let there : get_elem? vs other ≡ some w = sym (set_else vs id other v' apart) ∙ there₁ in
      let live : v.stage ≢ Spent = lives_idle v.stage idle in
      let live' : w.stage ≢ Spent = lives_idle w.stage idle' in
      let long : length vs' ≡ length vs = length-set vs₁ other x ∙ length-set vs id v' in
      let k = c.seats id v at live in
      let l = c.seats other w there live' in
      let gone : IsSpentAt vs' other = (x, set_here vs₁ other x (within vs₁ other w there₁), refl) in
      let stays : (k : ℕ) → IsSpentAt vs k → IsSpentAt vs' k = λ k s. let r = (spent_stays vs id v v' at live k s).0 in (spent_stays vs₁ other w x there₁ live' k r).0 in
      let spends : (k : ℕ) → IsSpentAt vs k → IsSpentAt vs' k × (calls_by caller k c.log ≡ calls_by caller k c.log) = λ k s. (stays k s, refl) in
      let count₁ : count_by is_in_turn vs₁ + 0 ≡ count_by is_in_turn vs + 0 = subst (λ (b : Bool). count_by is_in_turn vs₁ + cond b 1 0 ≡ count_by is_in_turn vs + cond b 1 0) (ap has_ticket idle) (recount is_in_turn vs id v v' at) in
      let count : count_by is_in_turn vs' + 0 ≡ count_by is_in_turn vs₁ + 0 = subst (λ (b : Bool). count_by is_in_turn vs' + cond b 1 0 ≡ count_by is_in_turn vs₁ + 0) (ap has_ticket idle') (recount is_in_turn vs₁ other w x there₁) in
      let d : t ≡ n + count_by is_in_turn vs = c.drawn in
      let now : (u : V) (j : ℕ) → Right t n hs c.log vs j u → Right t n hs c.log vs' j u =
      λ u j q. carried caller start t t n n hs hs c.log c.log vs vs' j u q (begins_itself c.log) refl (q.made ∙ ap (made_at j) (sym long)) spends q.place in
      let mine = now v id k in
      let theirs : IsRightNote caller start c.log vs' (note_at w) = record {
        opening = l.opening;
        seen = l.seen;
        all = ap (λ (z : ℕ). calls_by caller z c.log) l.number ∙ l.all;
        spent = subst (IsSpentAt vs') (sym l.number) gone;
      } in
      record {
        log = c.log;
        is_legal = c.is_legal;
        longest = let m = c.longest in dite (ℕ_discrete m.0 other)
            (λ e. let f : m.1 ≡ w = one_value vs m.0 other m.1 w m.2 there e in (
              id,
              v',
              set_else vs₁ other id x (λ z. apart (sym z)) ∙ set_here vs id v' (within vs id v at),
              live,
              ⊎_elim (λ (y : m.1.seen ≡ c.log). inr (inl (ap (λ (z : V). z.seen) (sym f) ∙ y))) (λ (y : HasNote c.log m.1.joined). absurd (subst (HasNote c.log) (ap (λ (z : V). z.joined) f ∙ bare) y)) m.4,
            ))
            (λ far. dite (ℕ_discrete m.0 id)
            (λ e. let f : m.1 ≡ v = one_value vs m.0 id m.1 v m.2 at e in (
              id,
              v',
              set_else vs₁ other id x (λ z. apart (sym z)) ∙ set_here vs id v' (within vs id v at),
              live,
              ⊎_elim (λ (y : v.seen ≡ c.log). inl y) (λ (y : HasNote c.log v.joined). inr (inr y)) (subst (HasSeen c.log) f m.4),
            ))
            (λ else. (m.0, m.1, set_else vs₁ other m.0 x far ∙ (set_else vs id m.0 v' else ∙ m.2), m.3, m.4)));
        served = c.served;
        short = c.short;
        few = subst (λ (k : ℕ). k ≤ 2 ^ 32) (sym long) c.few;
        drawn = omega arith;
        apart = still_apart vs₁ other x (still_apart vs id v' c.apart (λ j u y else here e mine. else (c.apart j id u v y here at e mine))) (λ j u y else here e mine. some-ne-none y (sym mine));
        named = subst (λ (k : ℕ). All (λ e. caller e < k) c.log) (sym long) c.named;
        seats = of_each (λ j u. u.stage ≢ Spent → Right t n hs c.log vs' j u) vs₁ other x (λ alive. absurd (alive refl))
            (λ j u _ here alive. of_each (λ j u. u.stage ≢ Spent → Right t n hs c.log vs' j u) vs id v'
            (λ _. record {
              number = mine.number;
              made = mine.made;
              opening = mine.opening;
              seen = mine.seen;
              own = mine.own;
              all = mine.all;
              place = mine.place;
              notes = All-cons (IsRightNote caller start c.log vs') (note_at w) v.joined theirs mine.notes;
            })
            (λ j u _ here alive. now u j (c.seats j u here alive)) j u here alive);
        book = ⊎_elim (λ h. inl h) (λ o. inr (out_stays vs₁ other n w x there₁ (λ e. true≢false (sym (ap is_out e) ∙ ap is_out idle'))
            (out_stays vs id n v v' at (λ e. true≢false (sym (ap is_out e) ∙ ap is_out idle)) o))) c.book;
      }

  -- close: all seats but one are spent, so nobody has the book out
  pub close_leaves : (t n : ℕ) (hs : H) (vs : List V) (id : ℕ) (v : V) → Rule t n hs vs → get_elem? vs id ≡ some v → v.stage ≡ Idle → v.made ≡ length v.joined + 1
      → ((i : ℕ) (d : Note E O) → i < length v.joined → (get_or v.joined i d).number ≡ i + 1) → (y : B) × (hs ≡ some (Some y) ∷ []) × Leaves caller legal history opening start y v
  close_leaves t n hs vs id v c at idle made numbers =
      let live : v.stage ≢ Spent = lives_idle v.stage idle in
      let k = c.seats id v at live in
      let first = first_knows id (length vs) v.made k.made (omega arith) in
      let size : v.made ≡ length vs = first.1 in
      let alone : (j : ℕ) (u : V) → get_elem? vs j ≡ some u → u.stage ≢ Holds n = λ j u here is. dite (ℕ_discrete j id)
      (λ e. let f : u ≡ v = one_value vs j id u v here at e in true≢false (sym (ap is_out is) ∙ (ap (λ (z : V). is_out z.stage) f ∙ ap is_out idle)))
      (λ other.
      let low : j < length vs = within vs j u here in
      let i : ℕ = j - 1 in
      let zero_id : id ≡ 0 = first.0 in
      let up : i + 1 ≡ j = omega arith in
      let d : Note E O = note_at v in
      let low_note : i < length v.joined = omega arith in
      let s : IsSpentAt vs (get_or v.joined i d).number = (k.notes i d low_note).spent in
      let e : j ≡ (get_or v.joined i d).number = sym (numbers i d low_note ∙ up) in
      let f : u ≡ s.0 = one_value vs j (get_or v.joined i d).number u s.0 here s.1 e in
      true≢false (sym (ap is_spent (ap (λ (z : V). z.stage) f ∙ s.2)) ∙ ap is_spent is)) in
      ⊎_elim
      (λ (home : IsHome history opening start hs c.log).
      let y : B = home.0 in
      let same : c.log ≡ history y = sym home.2 in (
        y,
        home.1,
        record {
          opening_is = home.3;
          is_legal = subst (legal start) same c.is_legal;
          last = record { seen = subst (IsPrefix v.seen) same k.seen; all = ap (calls_by caller v.number) (sym same) ∙ (ap (λ (z : ℕ). calls_by caller z c.log) k.number ∙ k.all) };
          others = All-weaker (IsRightNote caller start c.log vs) (IsSoOf caller (history y)) (λ m x. record { seen = subst (IsPrefix m.seen) same x.seen; all = ap (calls_by caller m.number) (sym same) ∙ x.all }) v.joined k.notes;
          named = subst (All (λ e. caller e < v.made)) same (subst (λ (z : ℕ). All (λ e. caller e < z) c.log) (sym size) c.named);
        },
      ))
      (λ (o : IsOut n vs). absurd (alone o.0 o.1 o.2 o.3))
      c.book
