use Rattle.std.proofs.Common.{[], Some}
use Rattle.disk_frames.proofs.SalvageLemmas.{HoldsTexts-salvaged, IsSalvaged-unique, IsSalvaged-not_foreign, IsForeign-unique}
use Rattle.gm_journal.specs.Following.{MayFollow, texts_of}
use Rattle.gm_journal.specs.FollowingLaws.{follows-one_way}
use Rattle.gm_journal.proofs.FollowingLemmas.{journalled-next}
use Rattle.gm_journal.proofs.laws.salvage_is_one.Goals as goal

pub returns-clause-unique : goal.returns-clause-unique
returns-clause-unique c = λ p bytes records others gate place last byte one other.
    let (texts, kept, gates, lasts) =
    IsSalvaged-unique (MayFollow p) (follows-one_way p) [] bytes (texts_of records) (texts_of others) records others gate place last byte one other in
    (kept, gates, lasts)

pub returns-clause-not_foreign : goal.returns-clause-not_foreign
returns-clause-not_foreign c = λ p bytes records gate at last one other.
    IsSalvaged-not_foreign (MayFollow p) (follows-one_way p) [] bytes (texts_of records) records gate at last one other

pub returns-clause-one_place : goal.returns-clause-one_place
returns-clause-one_place c = λ p bytes at place one other. IsForeign-unique (MayFollow p) (follows-one_way p) [] bytes at place one other

pub returns-clause-crash : goal.returns-clause-crash
returns-clause-crash c = λ p bytes records small all ids sizes holds.
    (Some holds.gate, HoldsTexts-salvaged (MayFollow p) [] bytes (texts_of records) records holds (journalled-next p records small all ids sizes))
