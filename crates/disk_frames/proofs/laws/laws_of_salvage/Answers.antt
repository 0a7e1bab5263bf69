use Rattle.std.proofs.Common.{Some}
use Rattle.disk_frames.proofs.SalvageLemmas.{HoldsTexts-salvaged, IsSalvaged-unique, IsSalvaged-not_foreign, IsForeign-unique}
use Rattle.disk_frames.proofs.laws.laws_of_salvage.Goals as goal

pub returns-clause-crash : goal.returns-clause-crash
returns-clause-crash g c = λ bytes texts first kept holds all.
    (Some holds.gate, HoldsTexts-salvaged (g.J.Judge.fits (g.J.Judge.rule c.args._judge.now)) first bytes texts kept holds all)

pub returns-clause-unique : goal.returns-clause-unique
returns-clause-unique g c = λ bytes texts others first kept taken gate place last byte one other.
    IsSalvaged-unique (g.J.Judge.fits (g.J.Judge.rule c.args._judge.now)) (g.met.J.Judge.one_way (g.J.Judge.rule c.args._judge.now)) first bytes texts others kept taken gate place last byte one other

pub returns-clause-not_foreign : goal.returns-clause-not_foreign
returns-clause-not_foreign g c = λ bytes texts first kept gate at last one other.
    IsSalvaged-not_foreign (g.J.Judge.fits (g.J.Judge.rule c.args._judge.now)) (g.met.J.Judge.one_way (g.J.Judge.rule c.args._judge.now)) first bytes texts kept gate at last one other

pub returns-clause-one_place : goal.returns-clause-one_place
returns-clause-one_place g c = λ bytes first at place one other.
    IsForeign-unique (g.J.Judge.fits (g.J.Judge.rule c.args._judge.now)) (g.met.J.Judge.one_way (g.J.Judge.rule c.args._judge.now)) first bytes at place one other
