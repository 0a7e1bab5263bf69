use Rattle.std.proofs.Common.{rules}
use Rattle.lit_words.proofs.WordLemmas.{none_open}
use Rattle.lit_words.proofs.lit_words.LitWords.open.Goals as goal

pub returns-in-None-clause-none : goal.returns-in-None-clause-none
returns-in-None-clause-none c =
    none_open c.args.self c.args.trues c.not_false-open.result c.remove.new.self c.args.other c.first-in-None.result c.not_false-open.ensures c.remove.ensures c.first-in-None.ensures.none

-- what is true goes first
pub returns-in-Some-clause-true_first : goal.returns-in-Some-clause-true_first
returns-in-Some-clause-true_first c = search rules
