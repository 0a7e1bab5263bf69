use Rattle.edit_session.proofs.BreakLemmas.{extends-from_none, none-from_extends}
use Rattle.edit_session.proofs.laws.none_where_extends.Goals as goal

-- each way is a lemma
pub returns : goal.returns
returns c = λ old new. (extends-from_none old new, none-from_extends old new)
