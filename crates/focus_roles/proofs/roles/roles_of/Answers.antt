use Rattle.std.proofs.Common.{◌≡◌, map, subst}
use Rattle.std.specs.Prelude.{IfOk}
use Rattle.gm_base.specs.Sets.{all_groups}
use Rattle.evidence_rec.specs.Records.{founds}
use Rattle.map_core.specs.Laws.{told_role}
use Rattle.focus_roles.proofs.TellLemmas.{roles-result}
use Rattle.focus_roles.proofs.roles.roles_of.Goals as goal

-- what the records tell is what the problem says
pub returns-clause-roles : goal.returns-clause-roles
returns-clause-roles c = λ p same tells.
    roles-result p c.args.groups c.args.records.now c.roles_by.result same tells
    (subst (λ rs. IfOk c.roles_by.result (λ told. told.items ≡ map (told_role (founds rs)) (all_groups c.args.groups))) c.as_slice.ensures
    (c.roles_by.ensures (founds c.as_slice.result.now) c.in_ok-marks.ensures))
