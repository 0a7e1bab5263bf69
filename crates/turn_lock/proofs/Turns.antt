-- What a whole turn tells its seat.
use Rattle.std.proofs.Common.{◌≡◌, ℕ, ◌==◌, ◌<◌, ◌^◌, length, List, [], ◌∷◌, ◌++◌, Some, cond, Bool, true, sym, ap, ◌∙◌, subst, append-nil, eq-eqb}
use Rattle.std.proofs.lemmas.List.Elements.{filter-append}
use mathlib.Core.List.{append_cancel_left}
use Rattle.turn_lock.specs.declared.view.Stage.TheVariants.{Waits}
use Rattle.turn_lock.specs.declared.view.View.{View}
use Rattle.turn_lock.specs.Calls.{calls_by}
use Rattle.turn_lock.specs.Moves.{GoesOn, at_stage, holding, after_turn}
use Rattle.turn_lock.specs.Seats.{TableId, IsTurn}
use Rattle.turn_lock.specs.Badges.{seat_view}

module _ {B E O Op Reply : Type 0} (caller : E → ℕ) (legal : O → List E → Type 0) (history : B → List E) (opening : B → O) (tells : O → List E → Op → Reply → E → Type 0) where
  -- the view after a turn that found the book at y and left it at y'
  abbrev pub after : View E O → ℕ → B → B → View E O
  after v t y y' = after_turn caller (holding (at_stage v (Waits t)) t (history y)) (history y')

  -- what the book had beyond the seat's history is by others, since all that it has of the seat the seat had seen
  pub turns : (v : View E O) (t number : ℕ) (lock lock' : TableId) (start : O) (op : Op) (reply : Reply) (y y' : B) (e : E) → v.number ≡ number → v.opening ≡ Some start → GoesOn caller history opening v y
      → history y' ≡ history y ++ e ∷ [] → caller e ≡ number → tells (opening y) (history y) op reply e → opening y' ≡ opening y → legal (opening y') (history y') → length (history y') < 2 ^ 63
      → IsTurn caller legal tells start (seat_view lock number v) op reply (seat_view lock' number (after v t y y'))
  turns v t number lock lock' start op reply y y' e same opened on more by told kept right short =
      let between : List E = on.1.0 in
      let whole : v.seen ++ between ≡ history y = on.1.1 in
      let start_is : opening y ≡ start = cc (on.0, opened) in
      let own : calls_by caller number v.seen ≡ v.mine = ap (λ (z : ℕ). calls_by caller z v.seen) (sym same) ∙ on.2 in
      let all : calls_by caller number (history y) ≡ v.mine = ap (λ (z : ℕ). calls_by caller z (history y)) (sym same) ∙ on.3 in
      let parts : calls_by caller number v.seen ++ calls_by caller number between ≡ v.mine = sym (filter-append (λ x. caller x == number) v.seen between) ∙ (ap (calls_by caller number) whole ∙ all) in
      let alone : v.mine ++ calls_by caller number between ≡ v.mine ++ [] = ap (λ (l : List E). l ++ calls_by caller number between) (sym own) ∙ (parts ∙ sym (append-nil v.mine)) in
      let hit : (caller e == number) ≡ true = eq-eqb (caller e) number by in
      let number_now : calls_by caller v.number (history y') ≡ calls_by caller number (history y') = ap (λ (z : ℕ). calls_by caller z (history y')) same in
      record {
        between = between;
        entry = e;
        seen = more ∙ ap (λ (l : List E). l ++ e ∷ []) (sym whole);
        others = append_cancel_left v.mine (calls_by caller number between) [] alone;
        by = by;
        mine = number_now ∙ (ap (calls_by caller number) more ∙ (filter-append (λ x. caller x == number) (history y) (e ∷ [])
            ∙ (ap (λ (l : List E). l ++ calls_by caller number (e ∷ [])) all ∙ ap (λ (b : Bool). v.mine ++ cond b (e ∷ []) []) hit)));
        own = sym number_now;
        is_legal = subst (λ (o : O). legal o (history y')) (kept ∙ start_is) right;
        short = short;
        told = subst (λ (z : O × List E). tells z.0 z.1 op reply e) (λ i. (start_is i, sym whole i)) told;
      }
