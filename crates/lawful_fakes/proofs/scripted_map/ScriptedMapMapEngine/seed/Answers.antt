use Rattle.std.proofs.Common.{◌≡◌, List, true, map, subst}
use Rattle.evidence_rec.specs.Seeding.{shows_all_explored}
use Rattle.lawful_fakes.specs.declared.block.Block.{Block}
use Rattle.lawful_fakes.specs.Script.{found_in}
use Rattle.evidence_rec.proofs.Explored.{all_explored-shown}
use Rattle.lawful_fakes.proofs.ScriptLemmas.{has_models}
use Rattle.lawful_fakes.proofs.scripted_map.ScriptedMapMapEngine.seed.Goals as goal

pub returns-in_err-found-clause-models : goal.returns-in_err-found-clause-models
returns-in_err-found-clause-models c =
    let i = c.self.inside in has_models i.groups i.blocks.items i.log i.exhausted c.self.invariant

pub returns-in-Some-clause-models : goal.returns-in-Some-clause-models
returns-in-Some-clause-models c =
    let i = c.self.inside in has_models i.groups i.blocks.items i.log i.exhausted c.self.invariant

pub returns-in_err-is_ended-clause-models : goal.returns-in_err-is_ended-clause-models
returns-in_err-is_ended-clause-models c =
    let i = c.self.inside in has_models i.groups i.blocks.items i.log i.exhausted c.self.invariant

pub returns-then-not-branch-clause-models : goal.returns-then-not-branch-clause-models
returns-then-not-branch-clause-models c =
    let i = c.self.inside in has_models i.groups i.blocks.items i.log i.exhausted c.self.invariant

-- the derivation of the script shows it
pub returns-clause-answer : goal.returns-clause-answer
returns-clause-answer c =
    let i = c.self.inside in
    all_explored-shown i.groups (map found_in i.blocks.items) i.ending c.self.invariant.within
    (subst (λ (bs : List Block). shows_all_explored i.groups (map found_in bs) i.ending ≡ true) c.as_slice.ensures.value
    (c.in_ok-is_ended.ensures c.if-not-branch.false))

pub returns-clause-models : goal.returns-clause-models
returns-clause-models c =
    let i = c.self.inside in has_models i.groups i.blocks.items i.log true c.self.invariant
