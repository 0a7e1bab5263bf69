use Rattle.std.proofs.Common.{◌≡◌, ◌+◌, ◌-◌, ◌*◌, ◌/◌, ◌≤◌, ◌∙◌, ◌++◌, ◌∷◌, [], List, ℕ, length, drop, All, ap, sym, subst, arith}
use Rattle.std.specs.Prelude.{slice_range}
use Rattle.std.specs.List.{concat}
use Rattle.std.proofs.lemmas.List.{append-nil, length-drop}
use Rattle.std.proofs.lemmas.List.Folds.{concat-append}
use Rattle.std.proofs.lemmas.List.Elements.{All-push}
use Rattle.sat_base.specs.FullBlocks.{AreFull}
use Rattle.sat_base.proofs.WordLemmas.{length-slice_range, slice_range_rest, cut_next, full_push}
use Rattle.sat_base.proofs.words.cut.Goals as goal

-- one more full block
pub loop-at-preserved : goal.loop-at-preserved
loop-at-preserved c =
    let blocks : List (List ℕ) = c.loop-at.blocks.items in
    let words = c.args.words.now in
    let at = c.loop-at.at in
    let within : at * 64 + 64 ≤ length words = omega (arith, c.loop-at-test.true) in
    let block : c.in_ok-new.field-0 ≡ slice_range words (at * 64) (at * 64 + 64) = c.in_ok-new.ensures ∙ c.in_ok-block.ensures.items in
    let pushed : c.push.new.self.items ≡ blocks ++ slice_range words (at * 64) (at * 64 + 64) ∷ [] =
    c.in_ok-push.ensures.items ∙ ap (λ (b : List ℕ). blocks ++ b ∷ []) block in
    let long : length (slice_range words (at * 64) (at * 64 + 64)) ≡ 64 = length-slice_range words (at * 64) (at * 64 + 64) (omega arith) within ∙ omega arith in (
      subst (λ (bs : List (List ℕ)). All (λ b. length b ≡ 64) bs) (sym pushed) (All-push (λ b. length b ≡ 64) blocks _ c.loop-at.invariant.0 long),
      ap (λ (bs : List (List ℕ)). concat bs ++ drop ((at + 1) * 64) words) pushed ∙ cut_next blocks words at c.loop-at.invariant.1,
    )

-- the last block has the rest
pub returns-clause-words : goal.returns-clause-words
returns-clause-words c =
    let blocks : List (List ℕ) = c.loop-at.blocks.items in
    let words = c.args.words.now in
    let count = (length words - 1) / 64 in
    let at_end : count ≡ c.loop-at.at = omega (arith, c.loop-at-test.false, c.loop-at.auto.at-end) in
    let last : c.in_ok-new-2.field-0 ≡ drop (c.loop-at.at * 64) words =
    c.in_ok-new-2.ensures ∙ c.in_ok-last.ensures.items ∙ slice_range_rest words (count * 64) ∙ ap (λ k. drop (k * 64) words) at_end in
    ap (λ (bs : List (List ℕ)). concat bs) c.in_ok-push-2.ensures.items
    ∙ concat-append blocks (c.in_ok-new-2.field-0 ∷ [])
    ∙ ap (λ (ws : List ℕ). concat blocks ++ ws) (append-nil c.in_ok-new-2.field-0 ∙ last)
    ∙ c.loop-at.invariant.1

pub returns-clause-full : goal.returns-clause-full
returns-clause-full c =
    let blocks : List (List ℕ) = c.loop-at.blocks.items in
    let words = c.args.words.now in
    let count = (length words - 1) / 64 in
    let long : length c.in_ok-new-2.field-0 ≡ length words - count * 64 =
    ap length (c.in_ok-new-2.ensures ∙ c.in_ok-last.ensures.items ∙ slice_range_rest words (count * 64)) ∙ length-drop (count * 64) words in
    subst AreFull (sym c.in_ok-push-2.ensures.items) (full_push blocks c.in_ok-new-2.field-0 c.loop-at.invariant.0 (omega arith))
