use Rattle.std.proofs.Common.{◌≡◌, ◌∙◌, ◌++◌, ◌∷◌, [], ℕ, List, sym, ap, subst, arith}
use Rattle.gm_base.specs.declared.kind.Side.{Side}
use Rattle.sat_base.specs.Literals.{AreLiterals}
use Rattle.gm_base.specs.Sets.{IsSubset, all_groups}
use Rattle.gm_base.specs.Explored.{block_of}
use Rattle.gm_base.proofs.SetLemmas.{all_groups-has}
use Rattle.cdcl_core.specs.Solver.{Solver}
use Rattle.evidence_rec.specs.Seeding.{EngineState, blocked}
use Rattle.power_map.specs.Inside.{view_of, IsKept}
use Rattle.power_map.specs.declared.map.PowerMap.TheInside.{Inside}
use Rattle.evidence_rec.proofs.BlockLemmas.{block-over}
use Rattle.lrat_steps.specs.Log.{inputs_of}
use Rattle.power_map.specs.Blocks.{blocks_of}
use Rattle.power_map.specs.Unsettled.{AreUnsettled, unsettled_behind}
use Rattle.power_map.proofs.MapLemmas.{has_models, kept_block, told_block, no_blocks}
use Rattle.power_map.proofs.UnsettledLemmas.{unsettled_then}
use Rattle.power_map.proofs.map.PowerMapMapEngine.block.Goals as goal

-- the groups of the set are groups of the map
set_within : (a : Inside) (told : EngineState) (set : List ℕ) → view_of a ≡ told → IsSubset set (all_groups told.groups)
    → IsSubset set (all_groups a.solver.vars)
set_within a told set is h = subst (λ (e : EngineState). IsSubset set (all_groups e.groups)) (sym is) h

-- where only room was made, all is as it was
kept_in_room : (a : Inside) (sides : List Side) → IsKept a.solver.vars a.solver.log a.sides.items a.empty
    → sides ≡ a.sides.items → IsKept a.solver.vars a.solver.log sides a.empty
kept_in_room a sides h same = subst (λ (ss : List Side). IsKept a.solver.vars a.solver.log ss a.empty) (sym same) h

pub returns-in_err-reserve-clause-models : goal.returns-in_err-reserve-clause-models
returns-in_err-reserve-clause-models c =
    let a = c.self.inside in
    has_models a.solver.vars a.solver.log c.reserve.new.self.items a.empty
    (kept_in_room a c.reserve.new.self.items c.self.invariant.kept c.in_err-reserve.ensures.items)

pub block_lits-requires : goal.block_lits-requires
block_lits-requires c = λ g i.
    let a = c.self.inside in
    let range = all_groups-has a.solver.vars g (set_within c.self.inside c.args.self.now c.args.set.now c.self.view_is c.requires g i) in
    let high = range.1 in
    let small = c.self.invariant.kept.small in
    omega arith

pub returns-in_err-clause-clause-models : goal.returns-in_err-clause-clause-models
returns-in_err-clause-clause-models c =
    let a = c.self.inside in
    has_models a.solver.vars a.solver.log c.reserve.new.self.items a.empty
    (kept_in_room a c.reserve.new.self.items c.self.invariant.kept c.in_ok-reserve.ensures.items)

pub add-requires : goal.add-requires
add-requires c =
    let a = c.self.inside in
    subst (AreLiterals a.solver.vars) (sym (c.deref.ensures.value ∙ c.in_ok-clause.ensures))
    (block-over a.solver.vars c.args.side c.args.set.now (set_within c.self.inside c.args.self.now c.args.set.now c.self.view_is c.requires))

pub returns-in_err-add-clause-models : goal.returns-in_err-add-clause-models
returns-in_err-add-clause-models c =
    let a = c.self.inside in
    let s = c.add.new.self in
    has_models s.vars s.log c.reserve.new.self.items a.empty
    (subst (λ (t : Solver). IsKept t.vars t.log c.reserve.new.self.items a.empty) (sym c.in_err-add.ensures.err)
    (kept_in_room a c.reserve.new.self.items c.self.invariant.kept c.in_ok-reserve.ensures.items))

pub invariant_of-self-2 : goal.invariant_of-self-2
invariant_of-self-2 c =
    let a = c.self.inside in
    let within = set_within c.self.inside c.args.self.now c.args.set.now c.self.view_is c.requires in
    let pushed = c.push_reserved.ensures.items ∙ ap (λ (ss : List Side). ss ++ c.args.side ∷ []) c.in_ok-reserve.ensures.items in
    let lits = c.deref.ensures.value ∙ c.in_ok-clause.ensures in
    let next : c.in_ok-left.left.items ≡ unsettled_behind c.is_beginning-begins.result c.args.side c.args.set.now a.unsettled.items =
    c.in_ok-left.ensures ∙ ap (unsettled_behind c.is_beginning-begins.result c.args.side c.args.set.now) (ap (λ (v : _). v.items) c.replace-unsettled.ensures.value) in
    let both =
    told_block a.solver c.add.new.self a.sides.items c.push_reserved.new.self.items a.empty c.args.side
    c.args.set.now c.deref.result.now c.self.invariant.kept c.in_ok-add.ensures.ok lits pushed in
    record {
      kept =
          kept_block a.solver c.add.new.self a.sides.items c.push_reserved.new.self.items a.empty c.args.side
          c.args.set.now c.deref.result.now c.self.invariant.kept within c.in_ok-add.ensures.ok lits pushed;
      true_first = ap (λ (v : Solver). v.true_first) c.in_ok-add.ensures.ok ∙ c.self.invariant.true_first;
      unsettled =
          subst (λ (e : EngineState). AreUnsettled e.groups e.blocks c.in_ok-left.left.items) (sym both)
          (unsettled_then a.solver.vars (blocks_of (inputs_of a.solver.log) a.sides.items) c.is_beginning-begins.result c.args.side c.args.set.now
          a.unsettled.items c.in_ok-left.left.items within
          (λ first. ap (blocks_of (inputs_of a.solver.log)) (sym c.in_ok-reserve.ensures.items ∙ sym c.as_slice.ensures.value ∙ c.is_beginning-begins.ensures first) ∙ no_blocks (inputs_of a.solver.log))
          next c.self.invariant.unsettled);
    }

pub returns-clause-ok : goal.returns-clause-ok
returns-clause-ok c =
    let a = c.self.inside in
    told_block a.solver c.add.new.self a.sides.items c.push_reserved.new.self.items a.empty c.args.side
    c.args.set.now c.deref.result.now c.self.invariant.kept
    c.in_ok-add.ensures.ok (c.deref.ensures.value ∙ c.in_ok-clause.ensures)
    (c.push_reserved.ensures.items ∙ ap (λ (ss : List Side). ss ++ c.args.side ∷ []) c.in_ok-reserve.ensures.items)
    ∙ ap (λ (e : EngineState). blocked e (block_of c.args.side c.args.set.now)) c.self.view_is

pub returns-clause-honest : goal.returns-clause-honest
returns-clause-honest c = (invariant_of-self-2 c).kept.honest

pub returns-clause-models : goal.returns-clause-models
returns-clause-models c =
    let s = c.add.new.self in
    has_models s.vars s.log c.push_reserved.new.self.items c.self.inside.empty (invariant_of-self-2 c).kept

pub returns-in_err-left-clause-models : goal.returns-in_err-left-clause-models
returns-in_err-left-clause-models c =
    let a = c.self.inside in
    has_models a.solver.vars a.solver.log c.reserve.new.self.items a.empty
    (kept_in_room a c.reserve.new.self.items c.self.invariant.kept c.in_ok-reserve.ensures.items)
