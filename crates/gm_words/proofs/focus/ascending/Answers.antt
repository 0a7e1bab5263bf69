use Rattle.gm_words.proofs.FocusLemmas.{IsGroupSet-front}
use Rattle.gm_words.proofs.focus.ascending.Goals as goal

-- the front of a set is a set
pub push-requires : goal.push-requires
push-requires c = IsGroupSet-front c.args.numbers.now c.loop-number.set c.loop-number.number-index c.requires c.loop-number.invariant c.loop-number-test.true
