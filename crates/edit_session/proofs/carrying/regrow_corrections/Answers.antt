use Rattle.std.proofs.Common.{◌≡◌, sym, ◌∙◌, subst}
use Rattle.edit_session.specs.Opening.{TellsAllRegrown}
use Rattle.edit_session.specs.Extends.{Extends}
use Rattle.edit_session.proofs.OpeningLemmas.{opening-from_sofar}
use Rattle.edit_session.proofs.carrying.regrow_corrections.Goals as goal

-- all corrections have grown
pub returns-in-None-clause-carried : goal.returns-in-None-clause-carried
returns-in-None-clause-carried g c =
    let o = g.O.Oracle.state c.regrow_all.new.oracle in
    let old = c.args.old.now in
    let same : o.problem ≡ c.args.new.now = c.regrow_all.ensures.spent.problem ∙ sym c.requires.problem in
    let told = subst (TellsAllRegrown o old c.args.records.now c.regrow_all.new.opening c.regrow_all.new.purse.left) c.in-None.is c.in_ok-asked.ensures.regrown in
    opening-from_sofar old o.problem c.args.records.now c.regrow_all.new.opening c.groups-groups.ensures.well_formed (subst (Extends old) (sym same) c.requires.extends) c.requires.accepted
    c.requires.distinct told

pub returns-in-Some-clause-carried : goal.returns-in-Some-clause-carried
returns-in-Some-clause-carried g c =
    let o = g.O.Oracle.state c.regrow_all.new.oracle in
    subst (TellsAllRegrown o c.args.old.now c.args.records.now c.regrow_all.new.opening c.regrow_all.new.purse.left) c.in-Some.is c.in_ok-asked.ensures.regrown
