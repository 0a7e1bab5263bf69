use Rattle.std.proofs.Common.{ℕ, ◌∷◌, [], ◌∙◌, refl, sym, ap, subst}
use Rattle.cdcl_core.specs.Solver.{Solver}
use Rattle.cdcl_core.specs.Answers.{IsModel, IsGreatestModel, IsRefuted}
use Rattle.lrat_steps.specs.Log.{inputs_of}
use Rattle.std.specs.Option.{option_to_list}
use Rattle.gm_base.specs.Sets.{complement}
use Rattle.power_map.specs.Inside.{IsKept}
use Rattle.power_map.specs.Blocks.{blocks_of}
use Rattle.power_map.specs.Unsettled.{AreUnsettled}
use Rattle.power_map.proofs.UnsettledLemmas.{last_of, others_of, unsettled_seed, unsettled_searched}
use Rattle.power_map.proofs.MapLemmas.{has_models, kept_after, seed_found, none_left}
use Rattle.power_map.proofs.map.PowerMapMapEngine.seed.Goals as goal

-- a group whose rest is handed out is no longer kept
pub all_but-requires : goal.all_but-requires
all_but-requires c =
    let a = c.self.inside in
    (last_of a.solver.vars (blocks_of (inputs_of a.solver.log) a.sides.items) a.unsettled.items c.pop.new.self.items c.in-Some.g
    c.in-Some.ensures.items c.self.invariant.unsettled).low

pub invariant_of-self : goal.invariant_of-self
invariant_of-self c =
    let a = c.self.inside in
    record {
      kept = c.self.invariant.kept;
      true_first = c.self.invariant.true_first;
      unsettled =
          others_of a.solver.vars (blocks_of (inputs_of a.solver.log) a.sides.items) a.unsettled.items c.pop.new.self.items (option_to_list c.pop.result)
          c.pop.ensures.items c.self.invariant.unsettled;
    }

pub returns-in_err-all_but-clause-models : goal.returns-in_err-all_but-clause-models
returns-in_err-all_but-clause-models c =
    let a = c.self.inside in
    has_models a.solver.vars a.solver.log a.sides.items a.empty c.self.invariant.kept

pub invariant_of-self-in-Some : goal.invariant_of-self-in-Some
invariant_of-self-in-Some c =
    let a = c.self.inside in
    record {
      kept = c.self.invariant.kept;
      true_first = c.self.invariant.true_first;
      unsettled =
          others_of a.solver.vars (blocks_of (inputs_of a.solver.log) a.sides.items) a.unsettled.items c.pop.new.self.items (option_to_list c.pop.result)
          c.pop.ensures.items c.self.invariant.unsettled;
    }

-- all groups but that one
pub returns-in-Some-clause-answer : goal.returns-in-Some-clause-answer
returns-in-Some-clause-answer c =
    let a = c.self.inside in
    let found = blocks_of (inputs_of a.solver.log) a.sides.items in
    unsettled_seed a.solver.vars found c.in-Some.g c.in_ok-all_but.field-0
    (last_of a.solver.vars found a.unsettled.items c.pop.new.self.items c.in-Some.g c.in-Some.ensures.items c.self.invariant.unsettled)
    (c.in_ok-all_but.ensures ∙ ap (λ (n : ℕ). complement n (c.in-Some.g ∷ [])) c.vars.ensures.vars)

pub returns-in-Some-clause-models : goal.returns-in-Some-clause-models
returns-in-Some-clause-models c =
    let a = c.self.inside in
    has_models a.solver.vars a.solver.log a.sides.items a.empty c.self.invariant.kept

pub invariant_of-self-in_err-assign : goal.invariant_of-self-in_err-assign
invariant_of-self-in_err-assign c =
    let a = c.self.inside in
    record {
      kept =
          kept_after c.leave.new.self c.solve.new.self c.args.purse.now.left c.solve.new.purse.left a.sides.items a.empty
          (subst (λ (v : Solver). IsKept v.vars v.log a.sides.items a.empty) (sym c.leave.ensures) c.self.invariant.kept) c.in_err-assign.ensures.paid c.in_err-assign.ensures.vars;
      true_first = c.in_err-assign.ensures.true_first ∙ (ap (λ (v : Solver). v.true_first) c.leave.ensures ∙ c.self.invariant.true_first);
      unsettled =
          unsettled_searched c.leave.new.self c.solve.new.self c.args.purse.now.left c.solve.new.purse.left a.sides.items c.pop.new.self.items
          c.in_err-assign.ensures.paid c.in_err-assign.ensures.vars
          (subst (λ (v : Solver). AreUnsettled v.vars (blocks_of (inputs_of v.log) a.sides.items) c.pop.new.self.items) (sym c.leave.ensures)
          (others_of a.solver.vars (blocks_of (inputs_of a.solver.log) a.sides.items) a.unsettled.items c.pop.new.self.items (option_to_list c.pop.result) c.pop.ensures.items c.self.invariant.unsettled));
    }

pub returns-in_err-assign-clause-models : goal.returns-in_err-assign-clause-models
returns-in_err-assign-clause-models c =
    let a = c.self.inside in
    let s = c.solve.new.self in
    has_models s.vars s.log a.sides.items a.empty
    (kept_after c.leave.new.self s c.args.purse.now.left c.solve.new.purse.left a.sides.items a.empty
    (subst (λ (v : Solver). IsKept v.vars v.log a.sides.items a.empty) (sym c.leave.ensures) c.self.invariant.kept) c.in_err-assign.ensures.paid c.in_err-assign.ensures.vars)

pub invariant_of-self-in_err-set_of-in-Sat : goal.invariant_of-self-in_err-set_of-in-Sat
invariant_of-self-in_err-set_of-in-Sat c =
    let a = c.self.inside in
    record {
      kept =
          kept_after c.leave.new.self c.solve.new.self c.args.purse.now.left c.solve.new.purse.left a.sides.items a.empty
          (subst (λ (v : Solver). IsKept v.vars v.log a.sides.items a.empty) (sym c.leave.ensures) c.self.invariant.kept) c.in_ok-assign.ensures.paid c.in_ok-assign.ensures.vars;
      true_first = c.in_ok-assign.ensures.true_first ∙ (ap (λ (v : Solver). v.true_first) c.leave.ensures ∙ c.self.invariant.true_first);
      unsettled =
          unsettled_searched c.leave.new.self c.solve.new.self c.args.purse.now.left c.solve.new.purse.left a.sides.items c.pop.new.self.items
          c.in_ok-assign.ensures.paid c.in_ok-assign.ensures.vars
          (subst (λ (v : Solver). AreUnsettled v.vars (blocks_of (inputs_of v.log) a.sides.items) c.pop.new.self.items) (sym c.leave.ensures)
          (others_of a.solver.vars (blocks_of (inputs_of a.solver.log) a.sides.items) a.unsettled.items c.pop.new.self.items (option_to_list c.pop.result) c.pop.ensures.items c.self.invariant.unsettled));
    }

pub returns-in_err-set_of-in-Sat-clause-models : goal.returns-in_err-set_of-in-Sat-clause-models
returns-in_err-set_of-in-Sat-clause-models c =
    let s = c.solve.new.self in
    has_models s.vars s.log c.self.inside.sides.items c.self.inside.empty (invariant_of-self-in_err-set_of-in-Sat c).kept

pub invariant_of-self-in-Sat : goal.invariant_of-self-in-Sat
invariant_of-self-in-Sat c =
    let a = c.self.inside in
    record {
      kept =
          kept_after c.leave.new.self c.solve.new.self c.args.purse.now.left c.solve.new.purse.left a.sides.items a.empty
          (subst (λ (v : Solver). IsKept v.vars v.log a.sides.items a.empty) (sym c.leave.ensures) c.self.invariant.kept) c.in_ok-assign.ensures.paid c.in_ok-assign.ensures.vars;
      true_first = c.in_ok-assign.ensures.true_first ∙ (ap (λ (v : Solver). v.true_first) c.leave.ensures ∙ c.self.invariant.true_first);
      unsettled =
          unsettled_searched c.leave.new.self c.solve.new.self c.args.purse.now.left c.solve.new.purse.left a.sides.items c.pop.new.self.items
          c.in_ok-assign.ensures.paid c.in_ok-assign.ensures.vars
          (subst (λ (v : Solver). AreUnsettled v.vars (blocks_of (inputs_of v.log) a.sides.items) c.pop.new.self.items) (sym c.leave.ensures)
          (others_of a.solver.vars (blocks_of (inputs_of a.solver.log) a.sides.items) a.unsettled.items c.pop.new.self.items (option_to_list c.pop.result) c.pop.ensures.items c.self.invariant.unsettled));
    }

pub invariant_of-self-in-Dry : goal.invariant_of-self-in-Dry
invariant_of-self-in-Dry c =
    let a = c.self.inside in
    record {
      kept =
          kept_after c.leave.new.self c.solve.new.self c.args.purse.now.left c.solve.new.purse.left a.sides.items a.empty
          (subst (λ (v : Solver). IsKept v.vars v.log a.sides.items a.empty) (sym c.leave.ensures) c.self.invariant.kept) c.in_ok-assign.ensures.paid c.in_ok-assign.ensures.vars;
      true_first = c.in_ok-assign.ensures.true_first ∙ (ap (λ (v : Solver). v.true_first) c.leave.ensures ∙ c.self.invariant.true_first);
      unsettled =
          unsettled_searched c.leave.new.self c.solve.new.self c.args.purse.now.left c.solve.new.purse.left a.sides.items c.pop.new.self.items
          c.in_ok-assign.ensures.paid c.in_ok-assign.ensures.vars
          (subst (λ (v : Solver). AreUnsettled v.vars (blocks_of (inputs_of v.log) a.sides.items) c.pop.new.self.items) (sym c.leave.ensures)
          (others_of a.solver.vars (blocks_of (inputs_of a.solver.log) a.sides.items) a.unsettled.items c.pop.new.self.items (option_to_list c.pop.result) c.pop.ensures.items c.self.invariant.unsettled));
    }

-- the model breaks no block
pub returns-in_ok-set_of-in-Sat-clause-answer : goal.returns-in_ok-set_of-in-Sat-clause-answer
returns-in_ok-set_of-in-Sat-clause-answer c =
    let s = c.solve.new.self in
    let m : IsModel s.vars (inputs_of s.log) [] c.in-Sat.assign = rw c.in-Sat.is at c.in_ok-assign.ensures.answer in
    let most : IsGreatestModel s.vars (inputs_of s.log) c.in-Sat.assign =
    rw c.in-Sat.is at c.in_ok-assign.ensures.greatest (ap (λ (v : Solver). v.true_first) c.leave.ensures ∙ c.self.invariant.true_first) refl in
    seed_found s.vars s.log c.self.inside.sides.items c.self.inside.empty [] c.in-Sat.assign
    c.in_ok-set_of-in-Sat.field-0 (invariant_of-self-in-Sat c).kept m most c.in_ok-set_of-in-Sat.ensures

pub returns-in_ok-set_of-in-Sat-clause-models : goal.returns-in_ok-set_of-in-Sat-clause-models
returns-in_ok-set_of-in-Sat-clause-models c =
    let s = c.solve.new.self in
    has_models s.vars s.log c.self.inside.sides.items c.self.inside.empty (invariant_of-self-in-Sat c).kept

-- the empty clause follows from the block clauses
pub returns-in-Unsat-clause-answer : goal.returns-in-Unsat-clause-answer
returns-in-Unsat-clause-answer c =
    let a = c.self.inside in
    let s = c.solve.new.self in
    let r : IsRefuted s.log [] c.in-Unsat.step = rw c.in-Unsat.is at c.in_ok-assign.ensures.answer in
    none_left s.vars s.log a.sides.items a.empty c.in-Unsat.step
    (kept_after c.leave.new.self s c.args.purse.now.left c.solve.new.purse.left a.sides.items a.empty
    (subst (λ (v : Solver). IsKept v.vars v.log a.sides.items a.empty) (sym c.leave.ensures) c.self.invariant.kept) c.in_ok-assign.ensures.paid c.in_ok-assign.ensures.vars) r

pub returns-in-Unsat-clause-models : goal.returns-in-Unsat-clause-models
returns-in-Unsat-clause-models c =
    let a = c.self.inside in
    let s = c.solve.new.self in
    has_models s.vars s.log a.sides.items a.empty
    (kept_after c.leave.new.self s c.args.purse.now.left c.solve.new.purse.left a.sides.items a.empty
    (subst (λ (v : Solver). IsKept v.vars v.log a.sides.items a.empty) (sym c.leave.ensures) c.self.invariant.kept) c.in_ok-assign.ensures.paid c.in_ok-assign.ensures.vars)

pub returns-in-Dry-clause-models : goal.returns-in-Dry-clause-models
returns-in-Dry-clause-models c =
    let s = c.solve.new.self in
    has_models s.vars s.log c.self.inside.sides.items c.self.inside.empty (invariant_of-self-in-Dry c).kept
