use Rattle.gm_words.proofs.FocusLemmas.{HasRead-more, HasRead-refused}
use Rattle.gm_words.proofs.focus.numbers_in.Goals as goal

-- one number more is read
pub loop-piece-preserved : goal.loop-piece-preserved
loop-piece-preserved c =
    HasRead-more c.args.pieces.now c.loop-piece.piece-index _ c.group_in.result c.in-Some.number c.loop-piece.numbers.items c.push.new.self.items c.loop-piece.invariant
    c.loop-piece-test.true c.group_in.ensures.number c.in-Some.is c.in-Some.ensures.not_background c.in_ok-push-in-Some.ensures.items

-- a piece that says none leaves no LIST
pub returns-in-None-clause-numbers : goal.returns-in-None-clause-numbers
returns-in-None-clause-numbers c =
    HasRead-refused c.args.pieces.now c.loop-piece.piece-index _ c.group_in.result c.loop-piece.numbers.items c.loop-piece.invariant c.loop-piece-test.true
    c.group_in.ensures.number c.in-None.is
