use Rattle.std.proofs.Common.{subst}
use Rattle.evidence_rec.specs.Seeding.{HasModels}
use Rattle.lawful_fakes.proofs.ScriptLemmas.{has_models}
use Rattle.lawful_fakes.proofs.scripted_map.ScriptedMap.block_count.Goals as goal

pub returns-clause-models : goal.returns-clause-models
returns-clause-models c =
    let i = c.self.inside in
    subst HasModels c.self.view_is (has_models i.groups i.blocks.items i.log i.exhausted c.self.invariant)
