use Rattle.std.proofs.Common.{◌≡◌, ◌+◌, ◌<◌, ◌∙◌, ℕ, List, [], ◌∷◌, ◌++◌, ap, length, length-append, arith}
use Rattle.std.specs.Prelude.{slice_index}
use Rattle.std.proofs.lemmas.Grind.{common_steps}
use Rattle.trail_book.proofs.heap.numbers.Goals as goal

-- one number more
numbered : (numbers : List ℕ) (n : ℕ) → length numbers ≡ n → ((place : ℕ) → place < n → slice_index numbers place ≡ place)
    → (place : ℕ) → place < n + 1 → slice_index (numbers ++ n ∷ []) place ≡ place
numbered numbers n size so_far place low = grind (arith, common_steps, so_far place)

pub loop-number-preserved : goal.loop-number-preserved
loop-number-preserved c =
    let i = c.loop-number.invariant in
    let numbers = c.loop-number.numbers.items in
    let n = c.loop-number.number in
    let pushed = c.in_ok-push.ensures.items in (
      ap length pushed ∙ length-append numbers (n ∷ []) ∙ ap (λ k. k + 1) i.0,
      λ place low. ap (λ l. slice_index l place) pushed ∙ numbered numbers n i.0 i.1 place low,
    )
