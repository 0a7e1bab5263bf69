use Rattle.std.proofs.Common.{◌≡◌, ◌/◌, ◌%◌, ◌<◌, ◌∙◌, List, ℕ, [], length, get_or, set, ap, sym, subst, arith}
use Rattle.std.specs.List.{concat}
use Rattle.std.proofs.lemmas.List.{get_or_read, length-set}
use Rattle.sat_base.specs.FullBlocks.{AreFull}
use Rattle.sat_base.proofs.WordLemmas.{is_at, written_at, full_set}
use Rattle.sat_base.proofs.words.with_block.Goals as goal

pub bounds-blocks-at : goal.bounds-blocks-at
bounds-blocks-at c = (is_at c.args.blocks.now c.args.at c.requires.full c.requires.in_range).block

pub with_word-requires : goal.with_word-requires
with_word-requires c =
    let there = is_at c.args.blocks.now c.args.at c.requires.full c.requires.in_range in
    let words_are = c.words.ensures ∙ get_or_read c.args.blocks.now (c.args.at / 64) c.index-blocks-at.result there.block c.index-blocks-at.is [] in
    subst (λ (ws : List ℕ). c.args.at % 64 < length ws) (sym words_are) there.at

pub index_mut-requires : goal.index_mut-requires
index_mut-requires c =
    let there = is_at c.args.blocks.now c.args.at c.requires.full c.requires.in_range in
    omega (arith, there.block, ap length c.in_ok-written.ensures, c.in_ok-written.written.ok)

-- the block of the word is written, and the others stay
pub returns-clause-words : goal.returns-clause-words
returns-clause-words c =
    let blocks = c.args.blocks.now in
    let at = c.args.at in
    let there = is_at blocks at c.requires.full c.requires.in_range in
    let words_are = c.words.ensures ∙ get_or_read blocks (at / 64) c.index-blocks-at.result there.block c.index-blocks-at.is [] in
    let written : c.in_ok-written-2.field-0 ≡ set (get_or blocks (at / 64) []) (at % 64) c.args.word =
    c.in_ok-written-2.ensures ∙ c.in_ok-block.ensures ∙ ap (λ (ws : List ℕ). set ws (at % 64) c.args.word) words_are in
    ap (λ (bs : List (List ℕ)). concat (set bs (at / 64) c.in_ok-written-2.field-0)) c.in_ok-written.ensures
    ∙ ap (λ (b : List ℕ). concat (set blocks (at / 64) b)) written
    ∙ written_at blocks at c.args.word c.requires.full c.requires.in_range

pub returns-clause-full : goal.returns-clause-full
returns-clause-full c =
    let blocks = c.args.blocks.now in
    let at = c.args.at in
    let there = is_at blocks at c.requires.full c.requires.in_range in
    let words_are = c.words.ensures ∙ get_or_read blocks (at / 64) c.index-blocks-at.result there.block c.index-blocks-at.is [] in
    let long : length c.in_ok-written-2.field-0 ≡ length (get_or blocks (at / 64) []) =
    ap length (c.in_ok-written-2.ensures ∙ c.in_ok-block.ensures) ∙ length-set c.words.result.now (at % 64) c.args.word ∙ ap length words_are in
    subst (λ (bs : List (List ℕ)). AreFull (set bs (at / 64) c.in_ok-written-2.field-0)) (sym c.in_ok-written.ensures)
    (full_set blocks (at / 64) c.in_ok-written-2.field-0 there.block long c.requires.full)
