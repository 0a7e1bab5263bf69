use Rattle.std.proofs.Common.{◌≡◌, ◌∙◌, List, subst, sym}
use Rattle.gm_base.specs.Sets.{IsSubset, all_groups}
use Rattle.lrat_steps.specs.Log.{LogStep}
use Rattle.evidence_rec.specs.Seeding.{EngineState}
use Rattle.lawful_fakes.specs.Inside.{engine_of}
use Rattle.lawful_fakes.specs.Script.{KeepsScript}
use Rattle.lawful_fakes.specs.declared.scripted_map.ScriptedMap.TheInside.{Inside}
use Rattle.lawful_fakes.proofs.ScriptLemmas.{has_models, in_range, kept_room, kept_pushed}
use Rattle.lawful_fakes.proofs.scripted_map.ScriptedMapMapEngine.block.Goals as goal

-- the groups of the set are groups of the map
set_within : (a : Inside) (told : EngineState) (set : List _) → engine_of a ≡ told → IsSubset set (all_groups told.groups)
    → IsSubset set (all_groups a.groups)
set_within a told set is h = subst (λ (e : EngineState). IsSubset set (all_groups e.groups)) (sym is) h

pub returns-in_err-reserve-clause-models : goal.returns-in_err-reserve-clause-models
returns-in_err-reserve-clause-models c =
    let i = c.self.inside in
    has_models i.groups c.reserve.new.self.items i.log i.exhausted
    (kept_room i.groups i.blocks.items c.reserve.new.self.items i.log c.self.invariant c.in_err-reserve.ensures.items)

pub returns-in_err-copy-clause-models : goal.returns-in_err-copy-clause-models
returns-in_err-copy-clause-models c =
    let i = c.self.inside in
    has_models i.groups c.reserve.new.self.items i.log i.exhausted
    (kept_room i.groups i.blocks.items c.reserve.new.self.items i.log c.self.invariant c.in_ok-reserve.ensures.items)

pub block_lits-requires : goal.block_lits-requires
block_lits-requires c = λ g h.
    let i = c.self.inside in
    in_range i.groups c.args.set.now g c.self.invariant.small
    (set_within c.self.inside c.args.self.now c.args.set.now c.self.view_is c.requires) h

pub returns-in_err-lits-clause-models : goal.returns-in_err-lits-clause-models
returns-in_err-lits-clause-models c =
    let i = c.self.inside in
    has_models i.groups c.reserve.new.self.items i.log i.exhausted
    (kept_room i.groups i.blocks.items c.reserve.new.self.items i.log c.self.invariant c.in_ok-reserve.ensures.items)

pub returns-in_err-push-clause-models : goal.returns-in_err-push-clause-models
returns-in_err-push-clause-models c =
    let i = c.self.inside in
    has_models i.groups c.reserve.new.self.items c.push.new.self i.exhausted
    (subst (λ (l : List LogStep). KeepsScript i.groups c.reserve.new.self.items l) (sym c.in_err-push.ensures.err)
    (kept_room i.groups i.blocks.items c.reserve.new.self.items i.log c.self.invariant c.in_ok-reserve.ensures.items))

pub invariant_of-self-2 : goal.invariant_of-self-2
invariant_of-self-2 c =
    let i = c.self.inside in
    kept_pushed i.groups i.blocks.items c.reserve.new.self.items c.push_reserved.new.self.items i.log c.push.new.self
    c.args.side c.args.set.now c.in_ok-copy.copy c.deref.result.now c.self.invariant
    (set_within c.self.inside c.args.self.now c.args.set.now c.self.view_is c.requires) c.in_ok-copy.ensures
    (c.deref.ensures.value ∙ c.in_ok-lits.ensures) c.in_ok-reserve.ensures.items c.push_reserved.ensures.items
    c.in_ok-push.ensures.ok

pub returns-clause-honest : goal.returns-clause-honest
returns-clause-honest c = (invariant_of-self-2 c).honest

pub returns-clause-models : goal.returns-clause-models
returns-clause-models c =
    let i = c.self.inside in
    has_models i.groups c.push_reserved.new.self.items c.push.new.self i.exhausted (invariant_of-self-2 c)
