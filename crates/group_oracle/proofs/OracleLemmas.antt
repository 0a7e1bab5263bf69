-- What a search means for the problem behind the log.
use Rattle.std.proofs.Common.{◌≡◌, ℕ, ◌+◌, ◌≤◌, Bool, true, List, map, length, take, Option, Some, sym, ◌∙◌, ap, subst}
use Rattle.std.specs.Prelude.{ℤ, Result, IfOk, IfSome}
use Rattle.std.specs.Option.{option_map}
use Rattle.std.proofs.lemmas.Result.{IfOk-weaker}
use Rattle.sat_base.specs.Literals.{AreLiterals}
use Rattle.gm_base.specs.Sets.{IsSubset, IsGroupSet, all_groups}
use Rattle.gm_base.specs.Problem.{Problem, IsProblem, Sat}
use Rattle.sat_base.specs.Derivation.{Derivation, clause_of}
use Rattle.sat_base.specs.Database.{known_of}
use Rattle.gm_base.specs.Evidence.{selector_form, is_witness, refutes}
use Rattle.lrat_steps.specs.Log.{LogStep, Input, lits_of, steps_of, step_at, inputs_of, db_of}
use Rattle.lrat_steps.specs.Trimmed.{IsTrimmed}
use Rattle.cdcl_core.specs.Answers.{IsConsistent, IsModel, IsRefuted, IsHonestlyPaid}
use Rattle.evidence_rec.specs.Asking.{IsHonestOver}
use Rattle.group_oracle.specs.Selectors.{on, AreOff, AreGroupsOf, without_selector, problem_of}
use Rattle.group_oracle.specs.Inside.{IsRefutedBy, refuted_at}
use Rattle.group_oracle.proofs.SelectorLemmas.{selectors_over, selectors_consistent, inputs-given}
use Rattle.group_oracle.proofs.WitnessLemmas.{witness-from_model}
use Rattle.group_oracle.proofs.RefutedLemmas.{core_at, core_off, core_within, core_refuted, switched_off-one, refuted-unsat, refuted-refutes}

-- before the search

pub assumed_over : (vars groups n : ℕ) (set : List ℕ) (assumed : List ℤ) → IsSubset set (all_groups groups) → n ≡ vars + groups → assumed ≡ map (on vars) set → AreLiterals n assumed
assumed_over vars groups n set assumed within e is =
    subst (λ k. AreLiterals k assumed) (sym e) (subst (AreLiterals (vars + groups)) (sym is) (selectors_over vars groups set within))

pub assumed_consistent : (vars groups : ℕ) (set : List ℕ) (assumed : List ℤ) → IsSubset set (all_groups groups) → assumed ≡ map (on vars) set → IsConsistent assumed
assumed_consistent vars groups set assumed within is = subst IsConsistent (sym is) (selectors_consistent vars groups set within)

-- after it, the inputs are the same, and so is the problem

problem_kept : (vars groups : ℕ) (old new : List LogStep) → inputs_of new ≡ inputs_of old → problem_of vars groups new ≡ problem_of vars groups old
problem_kept vars groups old new same =
    ap (λ (cs : List (List ℤ)). (let made : Problem = record { vars = vars; groups = groups; clauses = map (without_selector vars) cs } in made)) same

pub problem_after : (vars groups before left : ℕ) (old new : List LogStep) → IsProblem (problem_of vars groups old) → IsHonestlyPaid old new before left → IsProblem (problem_of vars groups new)
problem_after vars groups before left old new ok paid = subst IsProblem (sym (problem_kept vars groups old new paid.paid.inputs)) ok

pub honest_after : (vars groups before left : ℕ) (old new : List LogStep) → IsHonestOver (problem_of vars groups old) old → IsHonestlyPaid old new before left → IsHonestOver (problem_of vars groups new) new
honest_after vars groups before left old new h paid =
    subst (λ (p : Problem). IsHonestOver p new) (sym (problem_kept vars groups old new paid.paid.inputs)) (record { inputs = paid.paid.inputs ∙ h.inputs; honest = paid.honest })

-- of a log that was given the inputs of another one alone

pub twin_problem : (vars groups : ℕ) (old new : List LogStep) → new ≡ map Input (inputs_of old) → problem_of vars groups new ≡ problem_of vars groups old
twin_problem vars groups old new is = problem_kept vars groups old new (ap inputs_of is ∙ inputs-given (inputs_of old))

pub twin_given : (vars groups : ℕ) (old new : List LogStep) → IsHonestOver (problem_of vars groups old) old → new ≡ map Input (inputs_of old) → new ≡ map Input (selector_form (problem_of vars groups new))
twin_given vars groups old new h is = is ∙ ap (map Input) (h.inputs ∙ sym (ap selector_form (twin_problem vars groups old new is)))

-- a model
pub witness_found : (vars groups n : ℕ) (set : List ℕ) (log : List LogStep) (assumed : List ℤ) (assign values : List Bool) → IsProblem (problem_of vars groups log) → IsHonestOver (problem_of vars groups log) log
    → n ≡ vars + groups → assumed ≡ map (on vars) set → IsModel n (inputs_of log) assumed assign → values ≡ take vars assign → is_witness (problem_of vars groups log) set values ≡ true
witness_found vars groups n set log assumed assign values ok h e is m found =
    ap (is_witness (problem_of vars groups log) set) found
    ∙ witness-from_model (problem_of vars groups log) set assign ok
    (subst (λ (inputs : List (List ℤ)). IsModel (vars + groups) inputs (map (on vars) set) assign) h.inputs
    (subst (λ (lits : List ℤ). IsModel (vars + groups) (inputs_of log) lits assign) is (subst (λ k. IsModel k (inputs_of log) assumed assign) e m)))

-- a core

pub core_low : (log same : List LogStep) (assumed : List ℤ) (id : ℕ) → IsRefuted log assumed id → same ≡ log → id ≤ length (steps_of same)
core_low log same assumed id r e = subst (λ (l : List LogStep). id ≤ length (steps_of l)) (sym e) (core_at log id r.lits r.hints r.from_one r.step).0

core_lits : (log same : List LogStep) (id : ℕ) (lits : List ℤ) → same ≡ log → lits ≡ lits_of (step_at same id) → lits ≡ lits_of (step_at log id)
core_lits log same id lits e is = is ∙ ap (λ (l : List LogStep). lits_of (step_at l id)) e

pub core_is_off : (vars groups id : ℕ) (set : List ℕ) (log same : List LogStep) (assumed lits : List ℤ) → IsSubset set (all_groups groups) → assumed ≡ map (on vars) set → IsRefuted log assumed id → same ≡ log
    → lits ≡ lits_of (step_at same id) → AreOff vars lits
core_is_off vars groups id set log same assumed lits within is r e lits_are =
    subst (AreOff vars) (sym (core_lits log same id lits e lits_are)) (core_off vars groups id set log within (subst (λ (a : List ℤ). IsRefuted log a id) is r))

core_refuted_by : (vars groups id : ℕ) (set core : List ℕ) (log same : List LogStep) (assumed lits : List ℤ) → IsSubset set (all_groups groups) → assumed ≡ map (on vars) set → IsRefuted log assumed id → same ≡ log
    → lits ≡ lits_of (step_at same id) → AreGroupsOf vars lits core → IsRefutedBy vars log core id
core_refuted_by vars groups id set core log same assumed lits within is r e lits_are a =
    let of_log = core_lits log same id lits e lits_are in
    core_refuted vars id core assumed log r (subst (AreOff vars) of_log (core_is_off vars groups id set log same assumed lits within is r e lits_are))
    (subst (λ (ls : List ℤ). AreGroupsOf vars ls core) of_log a)

core_of_set : (vars groups id : ℕ) (set core : List ℕ) (log same : List LogStep) (assumed lits : List ℤ) → assumed ≡ map (on vars) set → IsRefuted log assumed id → same ≡ log
    → lits ≡ lits_of (step_at same id) → AreGroupsOf vars lits core → IsSubset core set
core_of_set vars groups id set core log same assumed lits is r e lits_are a =
    core_within vars id set core log (subst (λ (xs : List ℤ). IsRefuted log xs id) is r) (subst (λ (ls : List ℤ). AreGroupsOf vars ls core) (core_lits log same id lits e lits_are) a)

-- the core is the set that is read off the step
pub core_read : (vars groups id : ℕ) (set core : List ℕ) (log same : List LogStep) (assumed lits : List ℤ) → IsSubset set (all_groups groups) → assumed ≡ map (on vars) set → IsRefuted log assumed id → same ≡ log
    → lits ≡ lits_of (step_at same id) → AreGroupsOf vars lits core → core ≡ refuted_at vars groups log id
core_read vars groups id set core log same assumed lits within is r e lits_are a =
    let sub = core_of_set vars groups id set core log same assumed lits is r e lits_are a in
    switched_off-one vars groups (lits_of (step_at log id)) core (subst (λ (ls : List ℤ). AreGroupsOf vars ls core) (core_lits log same id lits e lits_are) a) (λ g i. within g (sub g i))

pub core_kept : (vars groups id : ℕ) (set core : List ℕ) (log same : List LogStep) (assumed lits : List ℤ) → IsSubset set (all_groups groups) → assumed ≡ map (on vars) set → IsRefuted log assumed id → same ≡ log
    → lits ≡ lits_of (step_at same id) → AreGroupsOf vars lits core → IsRefutedBy vars log (refuted_at vars groups log id) id
core_kept vars groups id set core log same assumed lits within is r e lits_are a =
    subst (λ (s : List ℕ). IsRefutedBy vars log s id) (core_read vars groups id set core log same assumed lits within is r e lits_are a)
    (core_refuted_by vars groups id set core log same assumed lits within is r e lits_are a)

pub core_answer : (vars groups id : ℕ) (set core : List ℕ) (log same : List LogStep) (assumed lits : List ℤ) → IsProblem (problem_of vars groups log) → IsHonestOver (problem_of vars groups log) log
    → IsSubset set (all_groups groups) → assumed ≡ map (on vars) set → IsRefuted log assumed id → same ≡ log → lits ≡ lits_of (step_at same id) → AreGroupsOf vars lits core
    → IsGroupSet core × IsSubset core set × (¬ Sat (problem_of vars groups log) core)
core_answer vars groups id set core log same assumed lits ok h within is r e lits_are a =
    let sub = core_of_set vars groups id set core log same assumed lits is r e lits_are a in (
      a.is_set,
      sub,
      refuted-unsat (problem_of vars groups log) log core id ok h (λ g i. within g (sub g i))
          (core_refuted_by vars groups id set core log same assumed lits within is r e lits_are a),
    )

-- what is derived for a set that was refuted
pub derivation_refutes : {E : Type 0} (vars groups : ℕ) (log same : List LogStep) (refuted : Option ℕ) (id : ℕ) (made : Result Derivation E) → IsProblem (problem_of vars groups log)
    → IsHonestOver (problem_of vars groups log) log → IfSome refuted (λ k. IsRefutedBy vars log (refuted_at vars groups log k) k) → refuted ≡ Some id → same ≡ log
    → IfOk made (λ d. (lits : List ℤ) → clause_of (known_of (db_of same)) id ≡ Some lits → IsTrimmed same lits d)
    → IfOk made (λ d. (set : List ℕ) → option_map (refuted_at vars groups log) refuted ≡ Some set → refutes (problem_of vars groups log) set d ≡ true)
derivation_refutes vars groups log same refuted id made ok h known is e derived =
    let by : IsRefutedBy vars log (refuted_at vars groups log id) id = subst (λ (o : Option ℕ). IfSome o (λ k. IsRefutedBy vars log (refuted_at vars groups log k) k)) is known in
    IfOk-weaker made (λ d. (lits : List ℤ) → clause_of (known_of (db_of same)) id ≡ Some lits → IsTrimmed same lits d)
    (λ d. (set : List ℕ) → option_map (refuted_at vars groups log) refuted ≡ Some set → refutes (problem_of vars groups log) set d ≡ true)
    (λ d trimmed set asked.
    let one : Some (refuted_at vars groups log id) ≡ Some set = sym (ap (option_map (refuted_at vars groups log)) is) ∙ asked in
    let same_set : refuted_at vars groups log id ≡ set = cc in
    subst (λ (s : List ℕ). refutes (problem_of vars groups log) s d ≡ true) same_set
    (refuted-refutes (problem_of vars groups log) log (refuted_at vars groups log id) id d ok h by
    (subst (λ (l : List LogStep). (lits : List ℤ) → clause_of (known_of (db_of l)) id ≡ Some lits → IsTrimmed l lits d) e trimmed)))
    derived
