-- Items with ascending keys, found by halving.
use Rattle.std.proofs.Common.{◌≡◌, ◌≢◌, ℕ, ◌<◌, ◌≤◌, List, length, get_or, Ok, Err, sym, ap, inl, inr, arith}
use Rattle.std.specs.List.{AllPairs}
use Rattle.std.specs.List.Sorted.{IsBinarySearchResult, IsNonDecreasingBy}
use Rattle.std.specs.Ordering.{nat_cmp, ordering_index}
use Rattle.std.proofs.lemmas.Bool.{cases_lt}
use Rattle.std.proofs.lemmas.Bool.Decides.{nat_tests}
use Rattle.std.proofs.lemmas.Cmp.{ranked}

-- comparisons with a key rise along the items, as halving asks
comparisons_rise : {X : Type 0} (key : X → ℕ) (xs : List X) (k : ℕ) → AllPairs (λ x y. key x < key y) xs → IsNonDecreasingBy (λ x. ordering_index (nat_cmp (key x) k)) xs
comparisons_rise key xs k up i j d le within =
    let keys_rise : key (get_or xs i d) ≤ key (get_or xs j d) = grind (arith, up i j d, λ (same : i ≡ j). ap (λ (n : ℕ). key (get_or xs n d)) same) in
    grind (arith, nat_tests)

-- so halving finds the item with the key, or shows that there is none
pub halved_here : {X : Type 0} (key : X → ℕ) (xs : List X) (k place : ℕ) → IsBinarySearchResult (λ x. nat_cmp (key x) k) xs (Ok place)
    → (d : X) → key (get_or xs place d) ≡ k
halved_here key xs k place equal d = ranked _ k _ (sym (equal d))

pub halved_nowhere : {X : Type 0} (key : X → ℕ) (xs : List X) (k place : ℕ) → AllPairs (λ x y. key x < key y) xs
    → IsBinarySearchResult (λ x. nat_cmp (key x) k) xs (Err place) → (i : ℕ) (d : X) → i < length xs → key (get_or xs i d) ≢ k
halved_nowhere key xs k place up parted i d lt same = elim (cases_lt i place) [
  | inl before ↦
      let less : key (get_or xs i d) < k = ranked _ k _ (sym ((parted (comparisons_rise key xs k up)).0 i d (omega arith) before)) in
      absurd (omega arith)
  | inr behind ↦
      let more : k < key (get_or xs i d) = ranked _ k _ (sym ((parted (comparisons_rise key xs k up)).1 i d behind lt)) in
      absurd (omega arith)
]
