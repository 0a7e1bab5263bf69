use Rattle.std.proofs.Common.{◌++◌, ◌∙◌, ap}
use Rattle.edit_session.specs.Carried.{kept}
use Rattle.edit_session.proofs.OpeningLemmas.{all-kept}
use Rattle.edit_session.proofs.carrying.keep_conflicts.Goals as goal

-- a kept conflict is accepted
pub returns-clause-accepted : goal.returns-clause-accepted
returns-clause-accepted c =
    let old = c.args.old.now in
    let new = c.args.new.now in
    let records = c.args.records.now in
    all-kept old new records c.keep_all.new.opening c.groups-groups.ensures.well_formed c.requires.extends c.requires.accepted
    (c.in_ok-keep_all.ensures ∙ ap (λ rs. rs ++ kept old new records) c.new-conflicts.ensures)
