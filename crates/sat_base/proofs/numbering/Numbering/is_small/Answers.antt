use Rattle.std.proofs.Common.{◌≤◌, subst}
use Rattle.sat_base.specs.Derivation.{max_id}
use Rattle.sat_base.specs.Numbering.{Numbering, number_by}
use Rattle.sat_base.proofs.NumberingLemmas.{number_small}
use Rattle.sat_base.proofs.numbering.Numbering.is_small.Goals as goal

pub returns : goal.returns
returns c = λ id. subst (λ (by : Numbering). number_by by id ≤ max_id) c.self.view_is (number_small (record { inputs = c.self.inside.inputs; ids = c.self.inside.ids.items }) id c.self.invariant)
