-- How words are kept: in one list, or in blocks one after another.
use Rattle.std.specs.Prelude.{ℕ, List}
use Rattle.std.specs.List.{concat}
use Rattle.sat_base.specs.FullBlocks.{AreFull}
use Rattle.sat_base.specs.declared.words.Kept.{Kept}
use Rattle.sat_base.specs.declared.words.Kept.TheVariants as kept
use Rattle.sat_base.specs.declared.words.Words.TheInside.{Inside}

abbrev pub kept_words : Kept → List ℕ
kept_words (kept.One words) = words.items
kept_words (kept.Many blocks) = concat blocks.items

abbrev pub words_of : Inside → List ℕ
words_of w = kept_words w.kept

abbrev pub AreKept : Kept → Type 0
AreKept (kept.One words) = Unit {0}
AreKept (kept.Many blocks) = AreFull blocks.items

-- blocks are full
abbrev pub IsKept : Inside → Type 0
IsKept w = AreKept w.kept
