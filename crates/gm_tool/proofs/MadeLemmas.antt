-- What is in results of which each has something in it.
use Rattle.std.proofs.Common.{◌≡◌, ℕ, ◌<◌, List, map, length, get_or, sym, ◌∙◌, ap, subst}
use Rattle.std.specs.Prelude.{All, Result, Ok, IfOk}
use Rattle.std.proofs.lemmas.List.{get_or-map, length-map}

-- what holds in each result that has something holds of all that is in them
pub all_hold : {X E : Type 0} (P : X → Type 0) (xs : List X) (made : List (Result X E)) → ((i : ℕ) (d : Result X E) → i < length made → IfOk (get_or made i d) P) → map Ok xs ≡ made → All P xs
all_hold P xs made each same = λ k d low.
    let size = length-map xs Ok in
    let bound = subst (λ n. k < n) (sym size ∙ ap length same) low in
    subst (λ r. IfOk r P) (ap (λ l. get_or l k (Ok d)) (sym same) ∙ get_or-map Ok xs k d (Ok d) low) (each k (Ok d) bound)

-- there are as many of them
pub as_many : {X E : Type 0} (xs : List X) (made : List (Result X E)) → map Ok xs ≡ made → length xs ≡ length made
as_many xs made same = sym (length-map xs Ok) ∙ ap length same
