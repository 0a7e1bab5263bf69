use Rattle.std.proofs.Common.{map}
use Rattle.gm_words.proofs.FocusLemmas.{HasRead}
use Rattle.gm_words.proofs.focus.numbers_in.Given as goal

abbrev pub invariant-loop-piece : goal.invariant-loop-piece
invariant-loop-piece l = HasRead (map (λ piece. piece.now) l.pieces) l.piece-index l.numbers.items
