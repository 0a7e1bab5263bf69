use Rattle.std.proofs.Common.{◌≡◌, ◌<◌, ◌≤◌, ◌+◌, ℕ, List, [], ◌∷◌, false, Bor, map, length, get_or, ◌∙◌, ap, subst, arith}
use Rattle.std.specs.Ordering.{nat_cmp, is_lt}
use Rattle.std.specs.Cmp.Lexicographic.{slice_cmp}
use Rattle.std.specs.List.Sorted.{IsPermutation, IsSorted}
use Rattle.std.proofs.lemmas.List.{get_or-map, length-map}
use Rattle.std.proofs.lemmas.List.Sorted.{IsPermutation-map}
use Rattle.gm_base.specs.Lent.{lists_of}
use Rattle.report_text.proofs.order.in_order.Goals as goal

-- references in order point to sets in order
order_of_sets : (xs : List (Bor (List ℕ)))
    → ((k : ℕ) (d : Bor (List ℕ)) → 0 ≤ k → k + 1 < length xs → is_lt (slice_cmp nat_cmp (get_or xs (k + 1) d).now (get_or xs k d).now) ≡ false)
    → IsSorted (slice_cmp nat_cmp) (map (λ (set : Bor (List ℕ)). set.now) xs)
order_of_sets [] up k e low lt = absurd (omega arith)
order_of_sets (x ∷ xs) up k e low lt =
    let within : k + 1 < length (x ∷ xs) = let same = length-map (x ∷ xs) (λ (set : Bor (List ℕ)). set.now) in omega arith in
    let high = get_or-map (λ (set : Bor (List ℕ)). set.now) (x ∷ xs) (k + 1) x e within in
    let here = get_or-map (λ (set : Bor (List ℕ)). set.now) (x ∷ xs) k x e (omega arith) in
    ap (λ s. is_lt (slice_cmp nat_cmp s (get_or (map (λ (set : Bor (List ℕ)). set.now) (x ∷ xs)) k e))) high
    ∙ ap (λ s. is_lt (slice_cmp nat_cmp (get_or (x ∷ xs) (k + 1) x).now s)) here ∙ up k x low within

pub returns : goal.returns
returns c =
    let old = c.in_ok-order.order.items in
    let new = c.sort.new.self.items in
    let whole : lists_of old ≡ c.args.sets.now = ap lists_of c.in_ok-order.ensures.items ∙ c.as_slice.ensures in
    record {
      same = subst (λ xs. IsPermutation xs (lists_of new)) whole (IsPermutation-map (λ (set : Bor (List ℕ)). set.now) old new c.in_ok-sort.ensures.permutation);
      order = order_of_sets new c.in_ok-sort.ensures.sorted;
    }
