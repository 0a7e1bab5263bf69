-- Lemmas on words in full blocks: where a word stands, what a written one leaves, and what one more block adds.
use Rattle.std.proofs.Common.{◌≡◌, ℕ, zero, suc, ◌+◌, ◌-◌, ◌*◌, ◌/◌, ◌%◌, ◌<◌, ◌≤◌, List, [], ◌∷◌, ◌++◌, length, get_or, set, take, drop, All, refl, sym, subst, ◌∙◌, ap, inl, inr, arith, append_assoc, length-drop, length-take-le}
use Rattle.std.specs.Prelude.{slice_range}
use Rattle.std.specs.List.{concat}
use Rattle.std.proofs.lemmas.Bool.{cases_eq, cases_lt}
use Rattle.std.proofs.lemmas.List.Folds.{concat-append, drop_split}
use Rattle.std.proofs.lemmas.List.{append-nil, length-append, length-set, length_push, take_all, get_or_append_left, get_or-append-add, get_or-take, get_or_past, get_or-set_same, get_or-set_other, set-append_left, set-append_right}
use Rattle.sat_base.specs.FullBlocks.{AreFull}

behind_first : (b : List ℕ) (bs : List (List ℕ)) → AreFull (b ∷ bs) → AreFull bs
behind_first b bs full = record { full = λ k lt. full.full (suc k) (omega arith); most = λ k. full.most (suc k) }

-- where the word r of block k stands
pub record IsThere (blocks : List (List ℕ)) (k r : ℕ) : Type 0 where
  pub block : k < length blocks
  pub at : r < length (get_or blocks k [])
  pub word : get_or (concat blocks) (64 * k + r) 0 ≡ get_or (get_or blocks k []) r 0

-- no block before the last one is short
first_full : (b : List ℕ) (bs : List (List ℕ)) (i : ℕ) → AreFull (b ∷ bs) → i < length (concat (b ∷ bs)) → 64 ≤ i → length b ≡ 64
first_full b [] i full lt past =
    let len = length-append b [] in
    let most = full.most 0 in
    absurd (omega arith)
first_full b (c ∷ cs) i full lt past = full.full 0 (omega arith)

first_there : (b : List ℕ) (bs : List (List ℕ)) (r : ℕ) → AreFull (b ∷ bs) → r < length (concat (b ∷ bs)) → r < 64 → r < length b
first_there b [] r full lt small =
    let len = length-append b [] in
    omega arith
first_there b (c ∷ cs) r full lt small =
    let len = full.full 0 (omega arith) in
    omega arith

pub is_there : (blocks : List (List ℕ)) (k r : ℕ) → AreFull blocks → r < 64 → 64 * k + r < length (concat blocks) → IsThere blocks k r
is_there [] k r full small lt = absurd (omega arith)
is_there (b ∷ bs) zero r full small lt =
    let at : 64 * 0 + r ≡ r = omega arith in
    let here : r < length b = first_there b bs r full (omega arith) small in
    record { block = omega arith; at = here; word = ap (λ i. get_or (b ++ concat bs) i 0) at ∙ get_or_append_left b (concat bs) 0 r here }
is_there (b ∷ bs) (suc k) r full small lt =
    let long : length b ≡ 64 = first_full b bs (64 * suc k + r) full lt (omega arith) in
    let len = length-append b (concat bs) in
    let rest = is_there bs k r (behind_first b bs full) small (omega arith) in
    let at : 64 * suc k + r ≡ length b + (64 * k + r) = omega arith in
    let inside = rest.block in
    record {
      block = omega arith;
      at = rest.at;
      word = ap (λ i. get_or (b ++ concat bs) i 0) at ∙ get_or-append-add b (concat bs) (64 * k + r) 0 ∙ rest.word;
    }

-- one word of a block is written
pub written_there : (blocks : List (List ℕ)) (k r w : ℕ) → AreFull blocks → r < 64 → 64 * k + r < length (concat blocks)
    → concat (set blocks k (set (get_or blocks k []) r w)) ≡ set (concat blocks) (64 * k + r) w
written_there [] k r w full small lt = absurd (omega arith)
written_there (b ∷ bs) zero r w full small lt =
    let at : r ≡ 64 * 0 + r = omega arith in
    sym (set-append_left b (concat bs) r w (first_there b bs r full (omega arith) small)) ∙ ap (λ i. set (b ++ concat bs) i w) at
written_there (b ∷ bs) (suc k) r w full small lt =
    let long : length b ≡ 64 = first_full b bs (64 * suc k + r) full lt (omega arith) in
    let len = length-append b (concat bs) in
    let at : 64 * suc k + r - 64 ≡ 64 * k + r = omega arith in
    ap (λ ws. b ++ ws) (written_there bs k r w (behind_first b bs full) small (omega arith))
    ∙ sym (set-append_right b (concat bs) 64 (64 * suc k + r) w long (omega arith) ∙ ap (λ i. b ++ set (concat bs) i w) at)

-- a block of the same length takes the place of another one
pub full_set : (blocks : List (List ℕ)) (k : ℕ) (b : List ℕ) → k < length blocks → length b ≡ length (get_or blocks k []) → AreFull blocks → AreFull (set blocks k b)
full_set blocks k b lt same full =
    let len = length-set blocks k b in
    let lengths : (j : ℕ) → length (get_or (set blocks k b) j []) ≡ length (get_or blocks j []) = λ j.
    elim (cases_eq j k) [
      | inl is ↦ rw is (ap length (get_or-set_same blocks k b [] lt) ∙ same)
      | inr other ↦ ap length (get_or-set_other blocks k j b [] other)
    ] in
    record {
      full = λ j before. lengths j ∙ full.full j (omega arith);
      most = λ j.
          let was = lengths j in
          let most = full.most j in
          omega arith;
    }

last_most : (blocks : List (List ℕ)) (b : List ℕ) (k : ℕ) → length b ≤ 64 → length blocks ≤ k → length (get_or (blocks ++ b ∷ []) k []) ≤ 64
last_most [] b zero small behind = small
last_most [] b (suc k) small behind = omega arith
last_most (c ∷ blocks) b zero small behind = absurd (omega arith)
last_most (c ∷ blocks) b (suc k) small behind = last_most blocks b k small (omega arith)

pub length-slice_range : (words : List ℕ) (from to : ℕ) → from ≤ to → to ≤ length words → length (slice_range words from to) ≡ to - from
length-slice_range words from to ordered within =
    let rest = length-drop from words in
    length-take-le (to - from) (drop from words) (omega arith)

pub slice_range_rest : (words : List ℕ) (from : ℕ) → slice_range words from (length words) ≡ drop from words
slice_range_rest words from = take_all (length words - from) (drop from words) (omega (arith, length-drop from words))

-- a last block behind full ones
pub full_push : (blocks : List (List ℕ)) (b : List ℕ) → All (λ block. length block ≡ 64) blocks → length b ≤ 64 → AreFull (blocks ++ b ∷ [])
full_push blocks b all small =
    let len = length_push blocks b in
    record {
      full = λ k before. ap length (get_or_append_left blocks (b ∷ []) [] k (omega arith)) ∙ all k [] (omega arith);
      most = λ k.
          elim (cases_lt k (length blocks)) [
            | inl before ↦
                let is = ap length (get_or_append_left blocks (b ∷ []) [] k before) ∙ all k [] before in
                omega arith
            | inr behind ↦ last_most blocks b k small behind
          ];
    }

-- the word at a place of all blocks
pub record IsAt (blocks : List (List ℕ)) (i : ℕ) : Type 0 where
  pub block : i / 64 < length blocks
  pub at : i % 64 < length (get_or blocks (i / 64) [])
  pub word : get_or (concat blocks) i 0 ≡ get_or (get_or blocks (i / 64) []) (i % 64) 0

pub is_at : (blocks : List (List ℕ)) (at : ℕ) → AreFull blocks → at < length (concat blocks) → IsAt blocks at
is_at blocks at full lt =
    let split : 64 * (at / 64) + at % 64 ≡ at = omega arith in
    let there = is_there blocks (at / 64) (at % 64) full (omega arith) (omega arith) in
    record { block = there.block; at = there.at; word = ap (λ i. get_or (concat blocks) i 0) (sym split) ∙ there.word }

pub written_at : (blocks : List (List ℕ)) (at w : ℕ) → AreFull blocks → at < length (concat blocks)
    → concat (set blocks (at / 64) (set (get_or blocks (at / 64) []) (at % 64) w)) ≡ set (concat blocks) at w
written_at blocks at w full lt =
    let split : 64 * (at / 64) + at % 64 ≡ at = omega arith in
    written_there blocks (at / 64) (at % 64) w full (omega arith) (omega arith) ∙ ap (λ i. set (concat blocks) i w) split

-- a block that is cut off next, behind full ones
pub cut_next : (blocks : List (List ℕ)) (words : List ℕ) (at : ℕ) → concat blocks ++ drop (at * 64) words ≡ words
    → concat (blocks ++ slice_range words (at * 64) (at * 64 + 64) ∷ []) ++ drop ((at + 1) * 64) words ≡ words
cut_next blocks words at so_far =
    let block = slice_range words (at * 64) (at * 64 + 64) in
    let end : (at + 1) * 64 ≡ at * 64 + 64 = omega arith in
    rw end
    (ap (λ ws. ws ++ drop (at * 64 + 64) words) (concat-append blocks (block ∷ []) ∙ ap (λ ws. concat blocks ++ ws) (append-nil block))
    ∙ append_assoc (concat blocks) block (drop (at * 64 + 64) words)
    ∙ ap (λ ws. concat blocks ++ ws) (sym (drop_split words (at * 64) (at * 64 + 64) (omega arith)))
    ∙ so_far)

-- what stands behind the same words is alike as far as it counts
take_behind : (b xs ys : List ℕ) (count rest : ℕ) → rest ≡ count - length b → take rest xs ≡ take rest ys → take count (b ++ xs) ≡ take count (b ++ ys)
take_behind [] xs ys count rest is same =
    let all : rest ≡ count = omega arith in
    subst (λ n. take n xs ≡ take n ys) all same
take_behind (w ∷ b) xs ys zero rest is same = refl
take_behind (w ∷ b) xs ys (suc count) rest is same = ap (λ ws. w ∷ ws) (take_behind b xs ys count rest (omega arith) same)

-- the first blocks, which have the first so many words
pub record HasFirst (blocks : List (List ℕ)) (k count : ℕ) : Type 0 where
  pub same : take count (concat (take k blocks)) ≡ take count (concat blocks)
  pub enough : count ≤ length (concat (take k blocks))

pub has_first : (blocks : List (List ℕ)) (k count : ℕ) → AreFull blocks → count ≤ length (concat blocks) → count ≤ 64 * k → HasFirst blocks k count
has_first [] zero count full lt few = record { same = refl; enough = lt }
has_first [] (suc k) count full lt few = record { same = refl; enough = lt }
has_first (b ∷ bs) zero zero full lt few = record { same = refl; enough = omega arith }
has_first (b ∷ bs) zero (suc count) full lt few = absurd (omega arith)
has_first (b ∷ []) (suc zero) count full lt few = record { same = refl; enough = lt }
has_first (b ∷ []) (suc (suc k)) count full lt few = record { same = refl; enough = lt }
has_first (b ∷ c ∷ cs) (suc k) count full lt few =
    let bs = c ∷ cs in
    let long : length b ≡ 64 = full.full 0 (omega arith) in
    let len = length-append b (concat bs) in
    let len_first = length-append b (concat (take k bs)) in
    let rest = has_first bs k (count - length b) (behind_first b bs full) (omega arith) (omega arith) in
    let enough = rest.enough in
    record {
      same = take_behind b (concat (take k bs)) (concat bs) count (count - length b) refl rest.same;
      enough = omega arith;
    }

-- full blocks stay full where the last ones go
pub full_take : (blocks : List (List ℕ)) (k : ℕ) → k ≤ length blocks → AreFull blocks → AreFull (take k blocks)
full_take blocks k within full =
    let len = length-take-le k blocks within in
    record {
      full = λ j before. ap length (get_or-take k blocks j [] (omega arith)) ∙ full.full j (omega arith);
      most = λ j.
          elim (cases_lt j k) [
            | inl before ↦
                let is = ap length (get_or-take k blocks j [] before) in
                let most = full.most j in
                omega arith
            | inr behind ↦
                let is = ap length (get_or_past (take k blocks) j [] (omega arith)) in
                omega arith
          ];
    }
