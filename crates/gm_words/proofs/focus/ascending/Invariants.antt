use Rattle.std.proofs.Common.{◌≡◌, take}
use Rattle.gm_words.proofs.focus.ascending.Given as goal

abbrev pub invariant-loop-number : goal.invariant-loop-number
invariant-loop-number l = l.set ≡ take l.number-index l.numbers
