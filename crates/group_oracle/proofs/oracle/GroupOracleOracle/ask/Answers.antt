use Rattle.std.proofs.Common.{◌≡◌, ◌∙◌, ℕ, List, Some, refl, sym, ap, subst, arith}
use Rattle.std.specs.Prelude.{Result, Ok, Err, OnErr}
use Rattle.gm_base.specs.Sets.{IsSubset, all_groups}
use Rattle.cdcl_core.specs.Answers.{IsModel, IsRefuted}
use Rattle.evidence_rec.specs.Asking.{OracleState}
use Rattle.group_oracle.specs.declared.oracle.GroupOracle.TheInside.{Inside}
use Rattle.group_oracle.specs.Inside.{view_of}
use Rattle.group_oracle.proofs.SelectorLemmas.{group_range}
use Rattle.group_oracle.proofs.OracleLemmas.{assumed_over, assumed_consistent, problem_after, honest_after, witness_found, core_low, core_is_off, core_read, core_kept, core_answer}
use Rattle.group_oracle.proofs.oracle.GroupOracleOracle.ask.Goals as goal

-- the groups that are asked for are groups of the problem
asked_within : (a : Inside) (told : OracleState) (set : List ℕ) → view_of a ≡ told → IsSubset set (all_groups told.problem.groups) → IsSubset set (all_groups a.groups)
asked_within a told set is h = subst (λ (o : OracleState). IsSubset set (all_groups o.problem.groups)) (sym is) h

pub selectors_of-requires : goal.selectors_of-requires
selectors_of-requires c = λ g i.
    let a = c.self.inside in
    let range = group_range a.groups g c.args.set.now (asked_within c.self.inside c.args.self.now c.args.set.now c.self.view_is c.requires) i in
    let high = range.1 in
    let small = c.self.invariant.small in
    omega arith

pub solve-requires-clause-literals : goal.solve-requires-clause-literals
solve-requires-clause-literals c =
    let a = c.self.inside in
    assumed_over a.vars a.groups a.solver.vars c.args.set.now c.deref.result.now
    (asked_within c.self.inside c.args.self.now c.args.set.now c.self.view_is c.requires) c.self.invariant.vars (c.deref.ensures.value ∙ c.in_ok-assumed.ensures)

pub solve-requires-clause-consistent : goal.solve-requires-clause-consistent
solve-requires-clause-consistent c =
    let a = c.self.inside in
    assumed_consistent a.vars a.groups c.args.set.now c.deref.result.now
    (asked_within c.self.inside c.args.self.now c.args.set.now c.self.view_is c.requires) (c.deref.ensures.value ∙ c.in_ok-assumed.ensures)

pub returns-in-Sat-clause-answer : goal.returns-in-Sat-clause-answer
returns-in-Sat-clause-answer c =
    let a = c.self.inside in
    let solver = c.solve.new.self in
    let paid = c.in_ok-assign.ensures.paid in
    let ok = problem_after a.vars a.groups c.args.purse.now.left c.solve.new.purse.left a.solver.log solver.log c.self.invariant.well_formed paid in
    let h = honest_after a.vars a.groups c.args.purse.now.left c.solve.new.purse.left a.solver.log solver.log c.self.invariant.honest paid in
    let m : IsModel solver.vars _ c.deref.result.now c.in-Sat.assign = rw c.in-Sat.is at c.in_ok-assign.ensures.answer in
    witness_found a.vars a.groups solver.vars c.args.set.now solver.log c.deref.result.now c.in-Sat.assign c.like_last-assign.result ok h (c.in_ok-assign.ensures.vars ∙ c.self.invariant.vars)
    (c.deref.ensures.value ∙ c.in_ok-assumed.ensures) m (c.like_last-assign.ensures ∙ c.prefix.ensures)

pub lits-requires-clause-within : goal.lits-requires-clause-within
lits-requires-clause-within c =
    let log = c.solve.new.self.log in
    let r : IsRefuted log c.deref.result.now c.in-Unsat.step = rw c.in-Unsat.is at c.in_ok-assign.ensures.answer in
    core_low log c.log.result.now c.deref.result.now c.in-Unsat.step r c.log.ensures.log

pub groups_off-requires : goal.groups_off-requires
groups_off-requires c =
    let a = c.self.inside in
    let log = c.solve.new.self.log in
    let r : IsRefuted log c.deref.result.now c.in-Unsat.step = rw c.in-Unsat.is at c.in_ok-assign.ensures.answer in
    core_is_off a.vars a.groups c.in-Unsat.step c.args.set.now log c.log.result.now c.deref.result.now c.lits.result.now
    (asked_within c.self.inside c.args.self.now c.args.set.now c.self.view_is c.requires) (c.deref.ensures.value ∙ c.in_ok-assumed.ensures) r c.log.ensures.log c.lits.ensures

-- the step's clause refutes the set that is kept
pub invariant_of-self-in-Unsat : goal.invariant_of-self-in-Unsat
invariant_of-self-in-Unsat c =
    let a = c.self.inside in
    let solver = c.solve.new.self in
    let paid = c.in_ok-assign.ensures.paid in
    let r : IsRefuted solver.log c.deref.result.now c.in-Unsat.step = rw c.in-Unsat.is at c.in_ok-assign.ensures.answer in
    record {
      vars = c.in_ok-assign.ensures.vars ∙ c.self.invariant.vars;
      small = c.self.invariant.small;
      well_formed = problem_after a.vars a.groups c.args.purse.now.left c.solve.new.purse.left a.solver.log solver.log c.self.invariant.well_formed paid;
      honest = honest_after a.vars a.groups c.args.purse.now.left c.solve.new.purse.left a.solver.log solver.log c.self.invariant.honest paid;
      refuted =
          core_kept a.vars a.groups c.in-Unsat.step c.args.set.now c.in_ok-core-in-Unsat.core solver.log c.log.result.now c.deref.result.now c.lits.result.now
          (asked_within c.self.inside c.args.self.now c.args.set.now c.self.view_is c.requires) (c.deref.ensures.value ∙ c.in_ok-assumed.ensures) r c.log.ensures.log c.lits.ensures
          c.in_ok-core-in-Unsat.ensures;
    }

pub returns-in-Unsat-clause-answer : goal.returns-in-Unsat-clause-answer
returns-in-Unsat-clause-answer c =
    let a = c.self.inside in
    let solver = c.solve.new.self in
    let paid = c.in_ok-assign.ensures.paid in
    let r : IsRefuted solver.log c.deref.result.now c.in-Unsat.step = rw c.in-Unsat.is at c.in_ok-assign.ensures.answer in
    core_answer a.vars a.groups c.in-Unsat.step c.args.set.now c.in_ok-core-in-Unsat.core solver.log c.log.result.now c.deref.result.now c.lits.result.now
    (problem_after a.vars a.groups c.args.purse.now.left c.solve.new.purse.left a.solver.log solver.log c.self.invariant.well_formed paid)
    (honest_after a.vars a.groups c.args.purse.now.left c.solve.new.purse.left a.solver.log solver.log c.self.invariant.honest paid)
    (asked_within c.self.inside c.args.self.now c.args.set.now c.self.view_is c.requires) (c.deref.ensures.value ∙ c.in_ok-assumed.ensures) r c.log.ensures.log c.lits.ensures
    c.in_ok-core-in-Unsat.ensures

-- the core is what is read off the step
pub returns-in-Unsat-clause-refuted : goal.returns-in-Unsat-clause-refuted
returns-in-Unsat-clause-refuted c =
    let a = c.self.inside in
    let solver = c.solve.new.self in
    let r : IsRefuted solver.log c.deref.result.now c.in-Unsat.step = rw c.in-Unsat.is at c.in_ok-assign.ensures.answer in
    ap Some
    (sym
    (core_read a.vars a.groups c.in-Unsat.step c.args.set.now c.in_ok-core-in-Unsat.core solver.log c.log.result.now c.deref.result.now c.lits.result.now
    (asked_within c.self.inside c.args.self.now c.args.set.now c.self.view_is c.requires) (c.deref.ensures.value ∙ c.in_ok-assumed.ensures) r c.log.ensures.log c.lits.ensures
    c.in_ok-core-in-Unsat.ensures))

-- what holds anyway holds after `Err`
always : {X E : Type 0} {A : Type 0} (r : Result X E) → A → OnErr r A
always (Ok x) a = tt
always (Err e) a = a

-- where memory is wanting, no set is left as refuted
pub returns-in_err-assumed-clause-err : goal.returns-in_err-assumed-clause-err
returns-in_err-assumed-clause-err c = always c.from_residual.result refl
