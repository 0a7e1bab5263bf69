-- What the table asks of each kind of step, from what the steps keep.
use Rattle.std.proofs.Common.{◌≡◌, ℕ, ◌+◌, ◌%◌, ◌^◌, ◌<◌, ◌≤◌, List, [], ◌∷◌, ◌++◌, length, get_or, set, count_by, Option, Some, None, sym, refl, ap, ◌∙◌, subst, arith, length-set, get_or-set_other, get_or-set_same}
use Rattle.std.proofs.lemmas.List.Sums.{count_by-le-length}
use mathlib.Core.Logic.{dite}
use mathlib.Core.Option.{some, none, some-injective}
use mathlib.Core.Option as maybe
use native.Mathlib.Decide.{ℕ_discrete}
use lib.ListN.{get_elem?}
use lib.Seq.{set-get_or}
use Rattle.atomic_table.specs.Table as table
use Rattle.atomic_table.specs.Table.{State, Me, step, keeps, takes, gives, Allows, Splits, Joins, Final, Seen}
use Rattle.atomic_table.proofs.Lists.{set_again}
use Rattle.turn_lock.specs.declared.view.Stage.TheVariants.{Idle, Waits, Holds}
use Rattle.turn_lock.specs.declared.view.Note.{Note}
use Rattle.turn_lock.specs.declared.view.View.{View}
use Rattle.turn_lock.specs.Rule.{ticket_of, is_in_turn, Between, Kept}
use Rattle.turn_lock.specs.Moves.{first_view, at_stage, holding, after_turn, drawn, looked, passed, elder, younger, taken_in, spent_view}
use Rattle.turn_lock.proofs.Turned.{draw_keeps, look_keeps, pass_keeps}
use Rattle.turn_lock.proofs.Seated.{Leaves, first_keeps, split_keeps, join_keeps, close_leaves}

module _ {B E O : Type 0} (caller : E → ℕ) (legal : O → List E → Type 0) (history : B → List E) (opening : B → O) (start : O) where
  abbrev V : Type 0
  V = View E O

  abbrev S : Type 0
  S = Option B

  abbrev Rule : State S V → Type 0
  Rule = Kept caller legal history opening start

  kept : (ws : List ℕ) (hs : List (maybe.Option S)) (vs : List V) (t n : ℕ) → length ws ≡ 2 → get_or ws 0 0 ≡ t → get_or ws 1 0 ≡ n → Between caller legal history opening start t n hs vs
      → Rule record { words = ws; homes = hs; views = vs }
  kept ws hs vs t n wide e f c = record { wide = wide; between = subst (λ (z : ℕ × ℕ). Between caller legal history opening start z.0 z.1 hs vs) (λ i. (sym e i, sym f i)) c }

  pub opens : (y : B) → history y ≡ [] → opening y ≡ start → legal start [] → Rule (table.opening (0 ∷ 0 ∷ []) (Some y ∷ []) (first_view start))
  opens y empty is legal_now = record { wide = refl; between = first_keeps caller legal history opening start y empty is legal_now }

  pub may_draw : (slots id : ℕ) (me : Me S V) → me.0.stage ≡ Idle → Allows Rule slots id me 0 (λ n. (n + 1) % 2 ^ 64) (drawn (step slots 0 1 0 none) me)
  may_draw slots id me idle s r _ at _ =
      let t : ℕ = get_or s.words 0 0 in
      let n : ℕ = get_or s.words 1 0 in
      let wide : length s.words ≡ 2 = r.wide in
      let count : ℕ = count_by is_in_turn s.views in
      let d : t ≡ n + count = r.between.drawn in
      let a : n < 2 ^ 63 = r.between.short in
      let b : length s.views ≤ 2 ^ 32 = r.between.few in
      let b' : count ≤ length s.views = count_by-le-length is_in_turn s.views in
      let v : ℕ = (t + 1) % 2 ^ 64 in
      let fits : v ≡ t + 1 = omega arith in (
        at_stage me.0 (Waits t),
        keeps,
        tt,
        kept (set s.words 0 v) s.homes (set s.views id (at_stage me.0 (Waits t))) (t + 1) n (length-set s.words 0 v ∙ wide)
            (get_or-set_same s.words 0 v 0 (omega arith) ∙ fits) (get_or-set_other s.words 0 1 v 0 (λ e. omega arith)) (draw_keeps caller legal history opening start t n s.homes s.views id me.0 r.between at idle),
        refl,
      )

  pub may_look : (slots id : ℕ) (me : Me S V) (m : ℕ) → me.0.stage ≡ Waits m → Allows Rule slots id me 1 (λ n. n) (looked caller history opening (step slots 1 0 0 none) me)
  may_look slots id me m waits s r _ at _ =
      let t : ℕ = get_or s.words 0 0 in
      let n : ℕ = get_or s.words 1 0 in
      let same : set s.words 1 n ≡ s.words = set-get_or s.words 1 0 in
      dite (ℕ_discrete m n)
      (λ e.
      let is : me.0.stage ≡ Waits n = waits ∙ ap Waits e in
      let k = look_keeps caller legal history opening start t n s.homes s.views id me.0 r.between at is in
      let y : B = k.0 in (
        holding me.0 n (history y),
        takes 0 (Some y),
        ap (λ (h : List (maybe.Option S)). get_elem? h 0) k.1,
        subst (λ (z : List ℕ × List (maybe.Option S)). Rule record { words = z.0; homes = z.1; views = set s.views id (holding me.0 n (history y)) })
            (λ i. (sym same i, ap (λ (h : List (maybe.Option S)). set h 0 none) (sym k.1) i))
            (kept s.words (none ∷ []) (set s.views id (holding me.0 n (history y))) t n r.wide refl refl k.2),
        ((λ _. (y, refl, k.3, r.between.short)), λ not. absurd (not is)),
      ))
      (λ other. (
        me.0,
        keeps,
        tt,
        subst (λ (z : List ℕ × List V). Rule record { words = z.0; homes = s.homes; views = z.1 }) (λ i. (sym same i, sym (set_again s.views id me.0 at) i)) r,
        ((λ is. absurd (other (some-injective m n (ap ticket_of (sym waits ∙ is))))), λ _. refl),
      ))

  pub may_pass : (slots id : ℕ) (v : V) (m : ℕ) (y : B) (e : E) → v.stage ≡ Holds m → history y ≡ v.seen ++ e ∷ [] → caller e ≡ v.number → length (history y) < 2 ^ 63 → v.opening ≡ Some (opening y) → legal (opening y) (history y)
      → Allows Rule slots id (v, (0, Some y) ∷ []) 1 (λ _. m + 1) (λ _. passed caller history (step slots 1 (m + 1) 0 none) (v, (0, Some y) ∷ []) (m + 1))
  may_pass slots id v m y e holds hist by short opened legal_now s r _ at _ =
      let t : ℕ = get_or s.words 0 0 in
      let n : ℕ = get_or s.words 1 0 in
      let wide : length s.words ≡ 2 = r.wide in
      let k = pass_keeps caller legal history opening start t n s.homes s.views id v m y e r.between at holds hist by short opened legal_now in
      let w : V = after_turn caller v (history y) in (
        w,
        gives,
        tt,
        subst (λ (h : List (maybe.Option S)). Rule record { words = set s.words 1 (m + 1); homes = h; views = set s.views id w }) (ap (λ (h : List (maybe.Option S)). set h 0 (some (Some y))) (sym k.1))
            (kept (set s.words 1 (m + 1)) (some (Some y) ∷ []) (set s.views id w) t (n + 1) (length-set s.words 1 (m + 1) ∙ wide)
            (get_or-set_other s.words 1 0 (m + 1) 0 (λ e. omega arith)) (get_or-set_same s.words 1 (m + 1) 0 (omega arith) ∙ ap (λ (z : ℕ). z + 1) k.0) k.2),
        λ y' is. let u : Some y ≡ Some y' = ap (λ (l : List (ℕ × S)). (get_or l 0 (0, None)).1) is in let z : y ≡ y' = cc u in ap (λ (x : B). (after_turn caller v (history x), [])) z,
      )

  pub may_split : (id : ℕ) (v : V) → v.stage ≡ Idle → 0 < v.made → v.made < 2 ^ 32 → Splits Rule id v (elder v) (younger v)
  may_split id v idle some_made few s r at = record { wide = r.wide; between = split_keeps caller legal history opening start (get_or s.words 0 0) (get_or s.words 1 0) s.homes s.views id v r.between at idle some_made few }

  pub may_join : (id : ℕ) (v : V) (other : ℕ) (w : V) → v.stage ≡ Idle → w.stage ≡ Idle → w.joined ≡ [] → Joins Rule id v other w (taken_in v w) spent_view
  may_join id v other w idle idle' bare s r at apart there = record {
    wide = r.wide;
    between = join_keeps caller legal history opening start (get_or s.words 0 0) (get_or s.words 1 0) s.homes s.views id v other w r.between at idle apart there idle' bare;
  }

  -- the closed table has the book, with all that the seats know
  pub closes : (id : ℕ) (v : V) (words : List ℕ) (slots : List S) → v.stage ≡ Idle → v.made ≡ length v.joined + 1
      → ((i : ℕ) (d : Note E O) → i < length v.joined → (get_or v.joined i d).number ≡ i + 1) → Final (Seen Rule id v) words slots
      → (y : B) × (get_elem? slots 0 ≡ some (Some y)) × Leaves caller legal history opening start y v
  closes id v words slots idle made numbers f =
      let s : State S V = f.0 in
      let k = close_leaves caller legal history opening start (get_or s.words 0 0) (get_or s.words 1 0) s.homes s.views id v f.1.0.between f.1.1 idle made numbers in
      (k.0, f.4 0 (Some k.0) (ap (λ (h : List (maybe.Option S)). get_elem? h 0) k.1), k.2)

-- the slot that was taken last stands in front of the rest
pub first_held : {X : Type 0} (l m : List (ℕ × X)) (x : X) → l ≡ (0, x) ∷ m → l ≡ (0, x) ∷ table.rest l
first_held {X = X} l m x e = e ∙ ap (λ (z : List (ℕ × X)). (0, x) ∷ z) (sym (ap table.rest e))
