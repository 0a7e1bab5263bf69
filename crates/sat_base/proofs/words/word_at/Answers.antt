use Rattle.std.proofs.Common.{◌/◌, ◌%◌, ◌<◌, ◌∙◌, List, ℕ, [], length, get_or, ap, sym, subst}
use Rattle.std.proofs.lemmas.List.{get_or_read}
use Rattle.sat_base.proofs.WordLemmas.{is_at}
use Rattle.sat_base.proofs.words.word_at.Goals as goal

pub bounds-blocks-at : goal.bounds-blocks-at
bounds-blocks-at c = (is_at c.args.blocks.now c.args.at c.requires.full c.requires.in_range).block

pub bounds-words-at : goal.bounds-words-at
bounds-words-at c =
    let there = is_at c.args.blocks.now c.args.at c.requires.full c.requires.in_range in
    let words_are = c.words.ensures ∙ get_or_read c.args.blocks.now (c.args.at / 64) c.index-blocks-at.result there.block c.index-blocks-at.is [] in
    subst (λ (ws : List ℕ). c.args.at % 64 < length ws) (sym words_are) there.at

-- the word stands in the block of its place
pub returns : goal.returns
returns c =
    let there = is_at c.args.blocks.now c.args.at c.requires.full c.requires.in_range in
    let words_are = c.words.ensures ∙ get_or_read c.args.blocks.now (c.args.at / 64) c.index-blocks-at.result there.block c.index-blocks-at.is [] in
    ap (λ (ws : List ℕ). get_or ws (c.args.at % 64) 0) words_are ∙ sym there.word
