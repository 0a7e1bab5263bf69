-- Nothing is refused exactly where the evidence passes.
use Rattle.std.proofs.Common.{◌≡◌, ◌≢◌, ◌↔◌, ℕ, ◌+◌, Bool, true, false, ◌&&◌, List, [], ◌∷◌, ◌++◌, length, Option, Some, None, refl, sym, ◌∙◌, ap, subst, arith}
use Rattle.std.specs.Prelude.{ℤ, nat_lt, if◌then◌else◌, Result, Ok, Err, IfOk}
use Rattle.std.specs.List.{list_all}
use Rattle.std.specs.Option.{option_map_or, option_or}
use Rattle.std.proofs.lemmas.Bool.{and_parts, and_from, lt-ltb, ltb-true}
use Rattle.gm_base.specs.Sets.{IsGroupSet, without, complement}
use Rattle.gm_base.specs.Problem.{Problem, IsProblem}
use Rattle.sat_base.specs.Derivation.{Step, Derivation, numbered, clause_of, all_known, is_step_clause, follows, steps_follow, is_derivation}
use Rattle.gm_base.specs.Evidence.{selector_form, refutes, is_witness, each_passes}
use Rattle.lrat_check.specs.declared.why.Why.{Why}
use Rattle.lrat_check.specs.declared.why.Why.TheVariants.{UnknownClause, NotRefuting, WitnessFails, UnknownRecord, NotInside}
use Rattle.lrat_check.specs.Refusal.{last_id, step_refusal}
use Rattle.lrat_check.proofs.RefusalLemmas as refusing
use Rattle.lrat_check.proofs.KnownLemmas.{last_id-push, last_id-numbered}
use Rattle.evidence_rec.specs.Refusals.{at_line, steps_refusal, leaves_out, goal_refusal, refutation_refusal, witness_refusal, witnesses_refusal, reference_refusal, group_refusal, steps_in, refutations_refusal, record_refusal}
use Rattle.evidence_rec.specs.Records.{found_of, numbered_record, is_inside, shows_refuted, IsShaped, Accepts, AllAccepted, IsMinimal}
use Rattle.evidence_rec.proofs.AcceptedLemmas.{accepted-right, minimal-from_accepts}
use Rattle.std.specs.declared.alloc.AllocError.{AllocError}
use Rattle.evidence_rec.specs.Verdicts.{refusal_by, IsAccepted}
use Rattle.evidence_rec.specs.declared.checking.Verdict.{Verdict}
use Rattle.evidence_rec.specs.declared.record.Record.{Record}
use Rattle.evidence_rec.specs.declared.record.Record.TheVariants as record_of
use Rattle.evidence_rec.specs.declared.record.Refutation.{Refutation}
use Rattle.evidence_rec.specs.declared.record.Refutation.TheVariants.{Steps, Earlier}

-- neither of two refuses
pub none-parts : {X : Type 0} (a b : Option X) → option_or a b ≡ None → (a ≡ None) × (b ≡ None)
none-parts None b h = (refl, h)
none-parts (Some x) b h = absurd (cc)

-- what the first of two says counts
pub or-stops : {X : Type 0} (a b : Option X) → a ≢ None → option_or a b ≡ a
or-stops None b some = absurd (some refl)
or-stops (Some x) b some = refl

pub or-goes : {X : Type 0} (a b : Option X) → a ≡ None → option_or a b ≡ b
or-goes None b none = refl
or-goes (Some x) b none = absurd (cc)

both : {X : Type 0} (a b : Option X) (s t : Bool) → (a ≡ None) ↔ (s ≡ true) → (b ≡ None) ↔ (t ≡ true) → (option_or a b ≡ None) ↔ ((s && t) ≡ true)
both a b s t first second = (
  λ h. let parts = none-parts a b h in and_from s t (first.0 parts.0) (second.0 parts.1),
  λ h. let parts = and_parts s t h in or-goes a b (first.1 parts.0) ∙ second.1 parts.1,
)

at_line-none : (line : ℕ) (why : Option Why) (s : Bool) → (why ≡ None) ↔ (s ≡ true) → (at_line line why ≡ None) ↔ (s ≡ true)
at_line-none line None s h = (λ k. h.0 refl, λ k. refl)
at_line-none line (Some w) s h = (λ k. absurd (cc), λ k. absurd (some_none w (h.1 k)))
  where
    some_none : (v : Why) → Some v ≡ None → ⊥
    some_none v same = cc

step-none : (vars : ℕ) (known : List (ℕ × List ℤ)) (s : Step)
    → (step_refusal vars known s.id s.lits s.hints ≡ None) ↔ ((nat_lt (last_id known) s.id && is_step_clause vars s.lits && follows known s.lits s.hints) ≡ true)
step-none vars known s = (
  λ h.
      let step = (refusing.steps_follow vars known s.id s.lits s.hints).0 h in
      and_from (nat_lt (last_id known) s.id && is_step_clause vars s.lits) (follows known s.lits s.hints)
      (and_from (nat_lt (last_id known) s.id) (is_step_clause vars s.lits) (lt-ltb (last_id known) s.id step.rises) step.is_clause)
      step.follow,
  λ h.
      let parts = and_parts (nat_lt (last_id known) s.id && is_step_clause vars s.lits) (follows known s.lits s.hints) h in
      let inner = and_parts (nat_lt (last_id known) s.id) (is_step_clause vars s.lits) parts.0 in
      (refusing.steps_follow vars known s.id s.lits s.hints).1
      (record { rises = ltb-true (last_id known) s.id inner.0; is_clause = inner.1; follow = parts.1 }),
)

pub steps-none : (vars : ℕ) (known : List (ℕ × List ℤ)) (line : ℕ) (steps : List Step)
    → (steps_refusal vars known line steps ≡ None) ↔ (steps_follow vars (last_id known) known steps ≡ true)
steps-none vars known line [] = (λ h. refl, λ h. refl)
steps-none vars known line (s ∷ ss) =
    let more : List (ℕ × List ℤ) = known ++ (s.id, s.lits) ∷ [] in
    both (at_line line (step_refusal vars known s.id s.lits s.hints)) (steps_refusal vars more (line + 1) ss)
    (nat_lt (last_id known) s.id && is_step_clause vars s.lits && follows known s.lits s.hints) (steps_follow vars s.id more ss)
    (at_line-none line (step_refusal vars known s.id s.lits s.hints) (nat_lt (last_id known) s.id && is_step_clause vars s.lits && follows known s.lits s.hints)
    (step-none vars known s))
    (subst (λ (n : ℕ). (steps_refusal vars more (line + 1) ss ≡ None) ↔ (steps_follow vars n more ss ≡ true)) (last_id-push known s.id s.lits)
    (steps-none vars more (line + 1) ss))

goal-none : (p : Problem) (set : List ℕ) (known : List (ℕ × List ℤ)) (goal : ℕ)
    → (goal_refusal p set known goal ≡ None) ↔ (option_map_or (λ (c : List ℤ). list_all (leaves_out p set) c) (clause_of known goal) false ≡ true)
goal-none p set known goal = by (clause_of known goal)
  where
    of : (b : Bool) → ((if b then None else Some NotRefuting) ≡ None) ↔ (b ≡ true)
    of true = (λ h. refl, λ h. refl)
    of false = (λ h. cc, λ h. cc)

    by : (o : Option (List ℤ))
        → (option_map_or (λ (c : List ℤ). if list_all (leaves_out p set) c then None else Some NotRefuting) o (Some UnknownClause) ≡ None)
        ↔ (option_map_or (λ (c : List ℤ). list_all (leaves_out p set) c) o false ≡ true)
    by None = (λ h. cc, λ h. cc)
    by (Some c) = of (list_all (leaves_out p set) c)

pub refutation-none : (p : Problem) (set : List ℕ) (line : ℕ) (d : Derivation) → (refutation_refusal p set line d ≡ None) ↔ (refutes p set d ≡ true)
refutation-none p set line d =
    let form : List (List ℤ) = selector_form p in
    let why : Option Why = goal_refusal p set (all_known form d.steps) d.goal in
    let goal_is : Bool = option_map_or (λ (c : List ℤ). list_all (leaves_out p set) c) (clause_of (all_known form d.steps) d.goal) false in
    both (steps_refusal (p.vars + p.groups) (numbered 1 form) line d.steps) (at_line (line + length d.steps) why)
    (is_derivation (p.vars + p.groups) form d) goal_is
    (subst
    (λ (n : ℕ). (steps_refusal (p.vars + p.groups) (numbered 1 form) line d.steps ≡ None) ↔ (steps_follow (p.vars + p.groups) n (numbered 1 form) d.steps ≡ true))
    (last_id-numbered form) (steps-none (p.vars + p.groups) (numbered 1 form) line d.steps))
    (at_line-none (line + length d.steps) why goal_is (goal-none p set (all_known form d.steps) d.goal))

pub witness-none : (p : Problem) (set : List ℕ) (w : List Bool) (line : ℕ) → (at_line line (witness_refusal p set w) ≡ None) ↔ (is_witness p set w ≡ true)
witness-none p set w line = at_line-none line (witness_refusal p set w) (is_witness p set w) (by (is_witness p set w))
  where
    by : (b : Bool) → ((if b then None else Some WitnessFails) ≡ None) ↔ (b ≡ true)
    by true = (λ h. refl, λ h. refl)
    by false = (λ h. cc, λ h. cc)

pub witnesses-none : (p : Problem) (set : List ℕ) (line : ℕ) (gs : List ℕ) (ws : List (List Bool)) → length ws ≡ length gs
    → (witnesses_refusal p set line gs ws ≡ None) ↔ (each_passes (λ g w. is_witness p (without set g) w) gs ws ≡ true)
witnesses-none p set line [] [] same = (λ h. refl, λ h. refl)
witnesses-none p set line [] (w ∷ ws) same = absurd (omega arith)
witnesses-none p set line (g ∷ gs) [] same = absurd (omega arith)
witnesses-none p set line (g ∷ gs) (w ∷ ws) same =
    both (at_line line (witness_refusal p (without set g) w)) (witnesses_refusal p set (line + 1) gs ws)
    (is_witness p (without set g) w) (each_passes (λ g w. is_witness p (without set g) w) gs ws)
    (witness-none p (without set g) w line) (witnesses-none p set (line + 1) gs ws (omega arith))

reference-none : (earlier : List Record) (set : List ℕ) (g i : ℕ)
    → (reference_refusal earlier set g i ≡ None) ↔ (option_map_or (is_inside set g) (numbered_record earlier i) false ≡ true)
reference-none earlier set g i = by (numbered_record earlier i)
  where
    of : (b : Bool) → ((if b then None else Some NotInside) ≡ None) ↔ (b ≡ true)
    of true = (λ h. refl, λ h. refl)
    of false = (λ h. cc, λ h. cc)

    by : (o : Option Record)
        → (option_map_or (λ (r : Record). if is_inside set g r then None else Some NotInside) o (Some UnknownRecord) ≡ None)
        ↔ (option_map_or (is_inside set g) o false ≡ true)
    by None = (λ h. cc, λ h. cc)
    by (Some r) = of (is_inside set g r)

group-none : (p : Problem) (earlier : List Record) (set : List ℕ) (g line : ℕ) (r : Refutation)
    → (group_refusal p earlier set g line r ≡ None) ↔ (shows_refuted p earlier set g r ≡ true)
group-none p earlier set g line (Steps d) = refutation-none p (complement p.groups (without set g)) line d
group-none p earlier set g line (Earlier i) =
    at_line-none line (reference_refusal earlier set g i) (option_map_or (is_inside set g) (numbered_record earlier i) false) (reference-none earlier set g i)

pub refutations-none : (p : Problem) (earlier : List Record) (set : List ℕ) (line : ℕ) (gs : List ℕ) (rs : List Refutation) → length rs ≡ length gs
    → (refutations_refusal p earlier set line gs rs ≡ None) ↔ (each_passes (shows_refuted p earlier set) gs rs ≡ true)
refutations-none p earlier set line [] [] same = (λ h. refl, λ h. refl)
refutations-none p earlier set line [] (r ∷ rs) same = absurd (omega arith)
refutations-none p earlier set line (g ∷ gs) [] same = absurd (omega arith)
refutations-none p earlier set line (g ∷ gs) (r ∷ rs) same =
    both (group_refusal p earlier set g line r) (refutations_refusal p earlier set (line + steps_in r + 1) gs rs)
    (shows_refuted p earlier set g r) (each_passes (shows_refuted p earlier set) gs rs)
    (group-none p earlier set g line r) (refutations-none p earlier set (line + steps_in r + 1) gs rs (omega arith))

-- no line of a record is refused exactly where its evidence is accepted
pub accepts-from_none : (p : Problem) (earlier : List Record) (r : Record) → IsShaped p r → IsGroupSet (found_of r).set → record_refusal p earlier r ≡ None → Accepts p earlier r
accepts-from_none p earlier (record_of.Conflict set proof ws) shaped is_set h =
    let parts = none-parts (refutation_refusal p set 1 proof) (witnesses_refusal p set (1 + length proof.steps + 1) set ws) h in
    record {
      is_set = is_set;
      refuted = (refutation-none p set 1 proof).0 parts.0;
      witnessed = (witnesses-none p set (1 + length proof.steps + 1) set ws shaped.0).0 parts.1;
    }
accepts-from_none p earlier (record_of.Correction set w rs) shaped is_set h =
    let parts = none-parts (at_line 1 (witness_refusal p (complement p.groups set) w)) (refutations_refusal p earlier set 2 set rs) h in
    record {
      is_set = is_set;
      witnessed = (witness-none p (complement p.groups set) w 1).0 parts.0;
      refuted = (refutations-none p earlier set 2 set rs shaped.1).0 parts.1;
    }

pub none-from_accepts : (p : Problem) (earlier : List Record) (r : Record) → IsShaped p r → Accepts p earlier r → record_refusal p earlier r ≡ None
none-from_accepts p earlier (record_of.Conflict set proof ws) shaped h =
    or-goes (refutation_refusal p set 1 proof) (witnesses_refusal p set (1 + length proof.steps + 1) set ws) ((refutation-none p set 1 proof).1 h.refuted)
    ∙ (witnesses-none p set (1 + length proof.steps + 1) set ws shaped.0).1 h.witnessed
none-from_accepts p earlier (record_of.Correction set w rs) shaped h =
    or-goes (at_line 1 (witness_refusal p (complement p.groups set) w)) (refutations_refusal p earlier set 2 set rs) ((witness-none p (complement p.groups set) w 1).1 h.witnessed)
    ∙ (refutations-none p earlier set 2 set rs shaped.1).1 h.refuted

-- what a check that ends says, where it says what is refused
pub accepts-of : (p : Problem) (earlier : List Record) (r s : Record) (answer : Result Verdict AllocError) → r ≡ s → IsShaped p r
    → IfOk answer (λ v. refusal_by v ≡ record_refusal p earlier s)
    → IfOk answer (λ v. IsAccepted v → IsGroupSet (found_of s).set) → IfOk answer (λ v. IsAccepted v ↔ Accepts p earlier r)
accepts-of p earlier r s (Err e) same shaped says is_set = tt
accepts-of p earlier r s (Ok v) same shaped says is_set = (
  λ accepted.
      accepts-from_none p earlier r shaped (subst (λ (t : Record). IsGroupSet (found_of t).set) (sym same) (is_set accepted))
      (ap (record_refusal p earlier) same ∙ sym says ∙ accepted),
  λ accepts. says ∙ sym (ap (record_refusal p earlier) same) ∙ none-from_accepts p earlier r shaped accepts,
)

pub minimal-of : (p : Problem) (earlier : List Record) (r : Record) (answer : Result Verdict AllocError) → IsProblem p
    → IfOk answer (λ v. IsAccepted v ↔ Accepts p earlier r)
    → AllAccepted p earlier → IfOk answer (λ v. IsAccepted v → IsMinimal p r)
minimal-of p earlier r (Err e) ok accepts all = tt
minimal-of p earlier r (Ok v) ok accepts all = λ accepted. minimal-from_accepts p earlier r ok (accepted-right p earlier ok all) (accepts.0 accepted)
