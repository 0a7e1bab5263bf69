-- What a clause that switches off groups says of the problem.
use Rattle.std.proofs.Common.{◌≡◌, ℕ, zero, suc, ◌+◌, ◌-◌, ◌<◌, ◌≤◌, Bool, true, false, not, List, [], ◌++◌, map, length, Option, Some, refl, sym, ◌∙◌, ap, subst, arith}
use Rattle.std.specs.Prelude.{ℤ, pos, negsuc, neg_ℤ, slice_get}
use Rattle.std.specs.Ordering.{int_eq}
use Rattle.std.specs.List.{list_any, list_all}
use Rattle.std.specs.Option.{option_map_or}
use Rattle.std.proofs.lemmas.Bool.{false≢true, and_from, and_parts}
use Rattle.std.proofs.lemmas.Bool.Decides.{Decides-int_eq}
use Rattle.sat_base.specs.Members.{In}
use Rattle.sat_base.specs.Literals.{literal_true}
use Rattle.gm_base.specs.Sets.{has, IsSubset, all_groups}
use Rattle.gm_base.specs.Problem.{Problem, IsProblem, Sat}
use Rattle.sat_base.specs.Derivation.{Derivation, clause_of, all_known, is_derivation, contains_lit}
use Rattle.sat_base.specs.Database.{known_of}
use Rattle.gm_base.specs.Evidence.{left_out, selector_form, refutes}
use Rattle.gm_base.proofs.SetLemmas.{AscendsAbove-filter, AscendsAbove-range, AscendsAbove-same, has-filter}
use Rattle.learn_step.proofs.AnalysisLemmas.{lit_in, in_lit}
use Rattle.sat_base.proofs.Members.{In-from_map, all_from, any_at, any_from}
use Rattle.sat_base.proofs.DatabaseLemmas.{get_in}
use Rattle.sat_base.proofs.FollowsLemmas.{Holds}
use Rattle.lrat_steps.specs.Log.{LogStep, Input, Core, lits_of, steps_of, step_at, inputs_of, db_of}
use Rattle.lrat_steps.specs.Trimmed.{IsTrimmed}
use Rattle.lrat_steps.proofs.LogLemmas.{named_step}
use Rattle.lrat_steps.proofs.SoundLemmas.{honest-sound}
use Rattle.cdcl_core.specs.Answers.{IsRefuted}
use Rattle.evidence_rec.specs.Asking.{IsHonestOver}
use Rattle.group_oracle.specs.Selectors.{on, off, AreOff, AreGroupsOf, switched_off}
use Rattle.group_oracle.specs.Inside.{IsRefutedBy}
use Rattle.group_oracle.proofs.GroupLemmas.{in_has, has_in, group_of, group_off}
use Rattle.group_oracle.proofs.SelectorLemmas.{group_range, form_over, get_or-from}
use Rattle.group_oracle.proofs.WitnessLemmas.{chosen, off-value, form_extended}

-- the step at a place

pub core_at : (log : List LogStep) (id : ℕ) (lits : List ℤ) (hints : List ℕ) → 0 < id → slice_get (steps_of log) (id - 1) ≡ Some (Core lits hints)
    → (id ≤ length (steps_of log)) × (step_at log id ≡ Core lits hints) × In (Core lits hints) (steps_of log)
core_at log id lits hints low h =
    let (lt, same) = get_or-from (steps_of log) (id - 1) (Core lits hints) (Input []) h in
    (omega arith, same, subst (λ (s : LogStep). In s (steps_of log)) same (get_in (steps_of log) (id - 1) (Input []) lt))

neg_neg : (l : ℤ) → neg_ℤ (neg_ℤ l) ≡ l
neg_neg (pos zero) = refl
neg_neg (pos (suc n)) = refl
neg_neg (negsuc n) = refl

-- the literals of a core that the solver answers

negated_off : (vars : ℕ) (set : List ℕ) (l : ℤ) → In (neg_ℤ l) (map (on vars) set) → (g : ℕ) × (has set g ≡ true) × (l ≡ off vars g)
negated_off vars set l i = let (g, j, e) = In-from_map (on vars) (neg_ℤ l) set i in (g, in_has set g j, sym (neg_neg l) ∙ ap neg_ℤ e)

pub core_off : (vars groups id : ℕ) (set : List ℕ) (log : List LogStep) → IsSubset set (all_groups groups) → IsRefuted log (map (on vars) set) id → AreOff vars (lits_of (step_at log id))
core_off vars groups id set log within r =
    let (high, same, i) = core_at log id r.lits r.hints r.from_one r.step in
    subst (λ (s : LogStep). AreOff vars (lits_of s)) (sym same)
    (λ l j.
    let (g, inside, is) = negated_off vars set l (r.negated l j) in
    record { group = g; not_background = (group_range groups g set within inside).0; is = is })

off_same : (vars g h : ℕ) → off vars g ≡ off vars h → g ≡ h
off_same vars g h e = sym (group_off vars g) ∙ ap (group_of vars) e ∙ group_off vars h

pub core_within : (vars id : ℕ) (set core : List ℕ) (log : List LogStep) → IsRefuted log (map (on vars) set) id → AreGroupsOf vars (lits_of (step_at log id)) core → IsSubset core set
core_within vars id set core log r a g inside =
    let (high, same, i) = core_at log id r.lits r.hints r.from_one r.step in
    let there : In (off vars g) r.lits = subst (λ (s : LogStep). In (off vars g) (lits_of s)) same ((a.groups g).0 inside) in
    let (h, found, is) = negated_off vars set (off vars g) (r.negated (off vars g) there) in
    ap (has set) (off_same vars g h is) ∙ found

-- the groups that literals switch off are one set
pub switched_off-one : (vars groups : ℕ) (lits : List ℤ) (core : List ℕ) → AreGroupsOf vars lits core → IsSubset core (all_groups groups) → core ≡ switched_off vars groups lits
switched_off-one vars groups lits core a within =
    AscendsAbove-same 0 core (switched_off vars groups lits) a.is_set (AscendsAbove-filter is_off 0 (all_groups groups) (AscendsAbove-range 0 groups))
    (λ g i. has-filter is_off (all_groups groups) g ∙ and_from (is_off g) (has (all_groups groups) g) (lit_in lits (off vars g) ((a.groups g).0 i)) (within g i))
    (λ g i. (a.groups g).1 (in_lit lits (off vars g) (and_parts (is_off g) (has (all_groups groups) g) (sym (has-filter is_off (all_groups groups) g) ∙ i)).0))
  where
    is_off : ℕ → Bool
    is_off g = contains_lit lits (off vars g)

pub core_refuted : (vars id : ℕ) (core : List ℕ) (assumed : List ℤ) (log : List LogStep) → IsRefuted log assumed id → AreOff vars (lits_of (step_at log id)) → AreGroupsOf vars (lits_of (step_at log id)) core
    → IsRefutedBy vars log core id
core_refuted vars id core assumed log r offs a =
    let (high, same, i) = core_at log id r.lits r.hints r.from_one r.step in
    record {
      lits = r.lits;
      hints = r.hints;
      from_one = r.from_one;
      step = r.step;
      within = λ l j.
          let there : In l (lits_of (step_at log id)) = subst (λ (s : LogStep). In l (lits_of s)) (sym same) j in
          let o = offs l there in
          (o.group, (a.groups o.group).1 (subst (λ k. In k (lits_of (step_at log id))) o.is there), o.is);
    }

-- an assignment that satisfied the set would make the clause true, and each of its literals false
pub refuted-unsat : (p : Problem) (log : List LogStep) (set : List ℕ) (id : ℕ) → IsProblem p → IsHonestOver p log → IsSubset set (all_groups p.groups) → IsRefutedBy p.vars log set id → ¬ Sat p set
refuted-unsat p log set id ok honest within r (assign, len, satisfied) =
    let (high, same, i) = core_at log id r.lits r.hints r.from_one r.step in
    let holds : Holds (assign ++ chosen p set) r.lits =
    honest-sound (assign ++ chosen p set) log honest.honest (λ c j. form_extended p assign set ok len satisfied c (subst (In c) honest.inputs j)) (Core r.lits r.hints) i in
    let (l, j, made) = any_from (literal_true (assign ++ chosen p set)) r.lits holds.is_true in
    let (g, inside, is) = r.within l j in
    let (low, below) = group_range p.groups g set within inside in
    let dead : literal_true (assign ++ chosen p set) (off p.vars g) ≡ false = off-value p assign set g len low below ∙ ap not inside in
    false≢true (sym dead ∙ sym (ap (literal_true (assign ++ chosen p set)) is) ∙ made)

-- the derivation of that clause

pub core_named : (log : List LogStep) (id : ℕ) (lits : List ℤ) (hints : List ℕ) → 0 < id → slice_get (steps_of log) (id - 1) ≡ Some (Core lits hints) → clause_of (known_of (db_of log)) id ≡ Some lits
core_named log id lits hints low h = let (high, same, i) = core_at log id lits hints low h in named_step log id low high ∙ ap (λ (s : LogStep). Some (lits_of s)) same

pub refuted-refutes : (p : Problem) (log : List LogStep) (set : List ℕ) (id : ℕ) (d : Derivation) → IsProblem p → IsHonestOver p log → IsRefutedBy p.vars log set id
    → ((lits : List ℤ) → clause_of (known_of (db_of log)) id ≡ Some lits → IsTrimmed log lits d) → refutes p set d ≡ true
refuted-refutes p log set id d ok honest r derived =
    let t = derived r.lits (core_named log id r.lits r.hints r.from_one r.step) in
    let allowed : ℤ → Bool = λ l. list_any (λ g. int_eq (left_out p g) l) set in
    let made : is_derivation (p.vars + p.groups) (inputs_of log) d ≡ true = t.derives (p.vars + p.groups) (λ c i. form_over p c ok (subst (In c) honest.inputs i)) in
    let all : list_all allowed r.lits ≡ true =
    all_from allowed r.lits
    (λ l i.
    let (g, inside, is) = r.within l i in
    any_at (λ g. int_eq (left_out p g) l) set g (has_in set g inside) ((Decides-int_eq (left_out p g) l).1 (sym is))) in
    and_from (is_derivation (p.vars + p.groups) (selector_form p) d) (option_map_or (λ (c : List ℤ). list_all allowed c) (clause_of (all_known (selector_form p) d.steps) d.goal) false)
    (subst (λ (inputs : List (List ℤ)). is_derivation (p.vars + p.groups) inputs d ≡ true) honest.inputs made)
    (ap (λ (o : Option (List ℤ)). option_map_or (λ (c : List ℤ). list_all allowed c) o false)
    (sym (ap (λ (inputs : List (List ℤ)). clause_of (all_known inputs d.steps) d.goal) honest.inputs) ∙ t.goal)
    ∙ all)
