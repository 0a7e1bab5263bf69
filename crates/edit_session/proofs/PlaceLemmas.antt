-- The places of steps, and lists that grow by what a walk comes to.
use Rattle.std.proofs.Common.{◌≡◌, ℕ, ◌+◌, List, [], ◌∷◌, ◌++◌, map, length, take, Some, refl, sym, ◌∙◌, ap, ap₂, inl, inr, eqb, arith}
use Rattle.std.specs.Prelude.{slice_get}
use Rattle.std.proofs.lemmas.Bool.{cond-false, ne_eqb}
use Rattle.std.proofs.lemmas.List.{take_more, map_push}
use Rattle.std.proofs.lemmas.Option.{slice_get_within, get_or_from_slice_get}
use Rattle.sat_base.specs.Members.{In}
use Rattle.sat_base.specs.Derivation.{Step}
use Rattle.sat_base.specs.Numbering.{place_in}
use Rattle.edit_session.specs.Carried.{ids_in}

-- the place of a number that isn't there
pub place_none : (xs : List ℕ) (n : ℕ) → ¬ In n xs → place_in xs n ≡ length xs
place_none [] n out = refl
place_none (x ∷ xs) n out =
    cond-false (eqb x n) 0 (place_in xs n + 1) (ne_eqb x n (λ same. out (inl (sym same))))
    ∙ ap (λ k. k + 1) (place_none xs n (λ i. out (inr i))) ∙ omega arith

-- the first of a list and one more
pub take_next : {X : Type 0} (xs : List X) (at : ℕ) (x : X) → slice_get xs at ≡ Some x → take (at + 1) xs ≡ take at xs ++ x ∷ []
take_next xs at x is = take_more xs at x (slice_get_within xs at x is) ∙ ap (λ y. take at xs ++ y ∷ []) (get_or_from_slice_get xs at x x is)

-- what becomes of each, one further
pub map-next : {X Y : Type 0} (f : X → Y) (xs : List X) (at : ℕ) (x : X) (y : Y) (before after : List Y) → slice_get xs at ≡ Some x → y ≡ f x → before ≡ map f (take at xs)
    → after ≡ before ++ y ∷ [] → after ≡ map f (take (at + 1) xs)
map-next f xs at x y before after is made sofar grown =
    grown ∙ ap₂ (λ ys z. ys ++ z ∷ []) sofar made
    ∙ sym (ap (map f) (take_next xs at x is) ∙ map_push f (take at xs) x)

pub ids-next : (steps : List Step) (at : ℕ) (s : Step) (before after : List ℕ) → slice_get steps at ≡ Some s → before ≡ ids_in (take at steps) → after ≡ before ++ s.id ∷ []
    → after ≡ ids_in (take (at + 1) steps)
ids-next steps at s before after is sofar grown = map-next (λ (t : Step). t.id) steps at s s.id before after is refl sofar grown
