use Rattle.std.proofs.Common.{◌≡◌, ◌⊎◌, ◌<◌, ◌≤◌, ◌∷◌, ◌+◌, ℕ, false, None, refl, subst, sym, ap, ◌∙◌, inr, arith, length}
use Rattle.std.specs.Prelude.{pos, neg_ℤ, slice_index_or}
use Rattle.sat_base.specs.Members.{In}
use Rattle.sat_base.specs.Literals.{IsLiteral}
use Rattle.sat_base.specs.Units.{HasValue}
use Rattle.trail_book.specs.Trail.{Trail, trues, top}
use Rattle.propagate.specs.Watches.{IsKept}
use Rattle.propagate.proofs.KeptLemmas.{kept_decide}
use Rattle.learn_step.specs.Reasons.{IsDecision}
use Rattle.cdcl_core.specs.State.{IsState, ArePositive}
use Rattle.lrat_steps.specs.Log.{inputs_of}
use Rattle.cdcl_core.specs.Answers.{IsModel}
use Rattle.cdcl_core.proofs.StateLemmas.{literal_at, state_is, assumed_state, chosen_state, model_of, failed_levels, failed_reason, all_levels_assumed}
use Rattle.cdcl_core.specs.Answers.{IsGreatestModel}
use Rattle.cdcl_core.proofs.GreatestLemmas.{greatest_of, true_others}
use Rattle.cdcl_core.proofs.PositiveLemmas.{positive_recount}
use Rattle.cdcl_core.proofs.search.Search.on_fixpoint.Goals as goal

pub decide-requires-clause-lit : goal.decide-requires-clause-lit
decide-requires-clause-lit c =
    subst (λ (t : Trail). IsLiteral t.vars c.in-Assume.lit) (sym c.next_decision.ensures.same)
    (literal_at c.args.self.now.trail.vars c.args.assumed.now c.in-Assume.lit c.requires.literals c.in-Assume.ensures.next.0)

pub refute-requires-clause-search : goal.refute-requires-clause-search
refute-requires-clause-search c =
    let s = c.args.self.now in
    let assumed = c.args.assumed.now in
    let same = c.next_decision.ensures.same in
    record {
      vars = c.requires.search.vars ∙ ap (λ (t : Trail). t.vars) (sym same);
      kept = subst (λ (t : Trail). IsKept s.store t) (sym same) c.requires.search.kept;
      state = subst (λ (t : Trail). IsState t.vars s.store.clauses s.log t.entries assumed s.assumed_levels) (sym same) c.requires.search.state;
      reached = λ l i. subst (λ (t : Trail). In l (trues t.entries)) (sym same) (c.next_decision.ensures.reached l i);
      positive = λ asked. subst (λ (t : Trail). ArePositive s.assumed_levels t.entries) (sym same) (c.requires.search.positive asked);
    }

pub refute-requires-clause-levels : goal.refute-requires-clause-levels
refute-requires-clause-levels c =
    let s = c.args.self.now in
    let failed = c.in-Failed.ensures.next in
    subst (λ (t : Trail). top t.entries ≤ s.assumed_levels) (sym c.next_decision.ensures.same)
    (failed_levels s.trail.vars s.store.clauses s.log s.trail.entries c.args.assumed.now s.assumed_levels c.in-Failed.lit c.requires.search.state failed.0 failed.1)

-- the assumed literals are consistent, so that the negation of one was not decided as another
pub refute-requires-clause-is_false : goal.refute-requires-clause-is_false
refute-requires-clause-is_false c =
    let s = c.args.self.now in
    let lit = c.in-Failed.lit in
    let failed = c.in-Failed.ensures.next in
    subst (λ (t : Trail). In (neg_ℤ lit) (trues t.entries) × (¬ IsDecision t.entries (neg_ℤ lit))) (sym c.next_decision.ensures.same)
    (failed.1, failed_reason s.trail.vars s.store.clauses s.log s.trail.entries c.args.assumed.now s.assumed_levels lit c.requires.search.state c.requires.consistent failed.0 failed.1)

pub returns-in-Assume-clause-round : goal.returns-in-Assume-clause-round
returns-in-Assume-clause-round c =
    let s = c.args.self.now in
    let db = s.store.clauses in
    let es = s.trail.entries in
    let assumed = c.args.assumed.now in
    let lit = c.in-Assume.lit in
    let i = c.in-Assume.ensures.next.0 in
    let unset = c.in-Assume.ensures.next.1 in
    let same = c.next_decision.ensures.same in
    let state =
    assumed_state s.trail.vars db s.log es assumed s.assumed_levels lit c.requires.search.state c.requires.fixpoint i unset (literal_at s.trail.vars assumed lit c.requires.literals i) in
    let all = all_levels_assumed s.trail.vars db s.log es assumed s.assumed_levels lit c.requires.search.state i unset.not_true in
    let levels = c.requires.search.state.levels in
    let vars : c.decide.new.self.vars ≡ s.trail.vars = c.decide.ensures.vars ∙ ap (λ (t : Trail). t.vars) same in
    let entries : c.decide.new.self.entries ≡ record { lit = lit; reason = None; unit = None } ∷ es =
    c.decide.ensures.entries ∙ ap (λ (t : Trail). record { lit = lit; reason = None; unit = None } ∷ t.entries) same in
    let done : c.decide.new.self.done ≡ s.trail.done = c.decide.ensures.done ∙ ap (λ (t : Trail). t.done) same in
    let tops = ap top entries in
    let count : c.top-self.result ≡ s.assumed_levels + 1 = omega (arith, c.top-self.ensures, tops, all, levels) in
    let len = ap length entries in
    λ left. record {
      search = record {
        vars = c.requires.search.vars ∙ sym vars;
        kept = kept_decide s.store s.trail c.decide.new.self 0 lit entries vars done c.requires.all_done c.requires.search.kept;
        state =
            subst (λ (n : ℕ). IsState c.decide.new.self.vars db s.log c.decide.new.self.entries assumed n) (sym count)
            (state_is s.trail.vars c.decide.new.self.vars (s.assumed_levels + 1) db db s.log s.log (record { lit = lit; reason = None; unit = None } ∷ es) c.decide.new.self.entries assumed vars refl refl entries state);
        reached = λ l j. subst (In l) (sym (ap trues entries)) (inr (c.next_decision.ensures.reached l j));
        positive = λ asked.
            subst (λ (n : ℕ). ArePositive n c.decide.new.self.entries) (sym count)
            (subst (ArePositive (s.assumed_levels + 1)) (sym entries)
            (λ above. absurd (omega (arith, above, all)), positive_recount s.assumed_levels (s.assumed_levels + 1) es (λ n low above. omega (arith, above)) (c.requires.search.positive asked)));
      };
      progress = inr (refl, omega (arith, len));
    }

pub returns-in-Choose-clause-round : goal.returns-in-Choose-clause-round
returns-in-Choose-clause-round c =
    let s = c.args.self.now in
    let db = s.store.clauses in
    let es = s.trail.entries in
    let assumed = c.args.assumed.now in
    let lit = c.in-Choose.lit in
    let h = c.in-Choose.ensures.next in
    let same = c.next_decision.ensures.same in
    let decided = c.decide-in-Choose.new.self in
    let state = chosen_state s.trail.vars db s.log es assumed s.assumed_levels lit c.requires.search.state c.requires.fixpoint h.0 h.1 h.2 in
    let vars : decided.vars ≡ s.trail.vars = c.decide-in-Choose.ensures.vars ∙ ap (λ (t : Trail). t.vars) same in
    let entries : decided.entries ≡ record { lit = lit; reason = None; unit = None } ∷ es =
    c.decide-in-Choose.ensures.entries ∙ ap (λ (t : Trail). record { lit = lit; reason = None; unit = None } ∷ t.entries) same in
    let len = ap length entries in
    λ left. record {
      search = record {
        vars = c.requires.search.vars ∙ sym vars;
        kept = kept_decide s.store s.trail decided 0 lit entries vars (c.decide-in-Choose.ensures.done ∙ ap (λ (t : Trail). t.done) same) c.requires.all_done c.requires.search.kept;
        state = state_is s.trail.vars decided.vars s.assumed_levels db db s.log s.log (record { lit = lit; reason = None; unit = None } ∷ es) decided.entries assumed vars refl refl entries state;
        reached = λ l j. subst (In l) (sym (ap trues entries)) (inr (c.next_decision.ensures.reached l j));
        positive = λ asked. subst (ArePositive s.assumed_levels) (sym entries) (λ above. h.3 asked, c.requires.search.positive asked);
      };
      progress = inr (refl, omega (arith, len));
    }

-- each variable of a clause has a value, and each clause is loose, so that one of its literals is true
pub returns-in_ok-assign-in-Full-clause-round : goal.returns-in_ok-assign-in-Full-clause-round
returns-in_ok-assign-in-Full-clause-round c =
    let s = c.args.self.now in
    let assumed = c.args.assumed.now in
    let h = c.in-Full.ensures.next in
    let same = c.next_decision.ensures.same in
    let a = c.in_ok-assign-in-Full.assign in
    let values = c.in_ok-assign-in-Full.ensures in
    let total : length a ≡ s.trail.vars = values.len ∙ ap (λ (t : Trail). t.vars) same in
    let others : (index : ℕ) → index < s.trail.vars → HasValue (trues s.trail.entries) (pos (index + 1)) ⊎ (slice_index_or a index false ≡ s.true_first) =
    subst (λ (t : Trail). (index : ℕ) → index < t.vars → HasValue (trues t.entries) (pos (index + 1)) ⊎ (slice_index_or a index false ≡ s.true_first)) same values.others in
    λ left. record {
      search = record {
        vars = c.requires.search.vars ∙ ap (λ (t : Trail). t.vars) (sym same);
        kept = subst (λ (t : Trail). IsKept s.store t) (sym same) c.requires.search.kept;
        state = subst (λ (t : Trail). IsState t.vars s.store.clauses s.log t.entries assumed s.assumed_levels) (sym same) c.requires.search.state;
        reached = λ l i. subst (λ (t : Trail). In l (trues t.entries)) (sym same) (c.next_decision.ensures.reached l i);
        positive = λ asked. subst (λ (t : Trail). ArePositive s.assumed_levels t.entries) (sym same) (c.requires.search.positive asked);
      };
      says =
          subst (λ (t : Trail). IsModel t.vars (inputs_of s.log) assumed a) (sym same)
          (model_of s.trail.vars s.trail.touched s.true_first s.store.clauses s.log s.trail.entries assumed s.assumed_levels a c.requires.search.state c.requires.fixpoint h.0 c.requires.touched h.1 total
          (λ l i. values.values l (subst (λ (t : Trail). In l (trues t.entries)) (sym same) i)) others);
      greatest = λ asked none.
          subst (λ (t : Trail). IsGreatestModel t.vars (inputs_of s.log) a) (sym same)
          (greatest_of s.trail.vars s.store.clauses s.log s.trail.entries assumed s.assumed_levels a c.requires.search.state (c.requires.search.positive asked) none (true_others s.trail.vars s.trail.entries a s.true_first asked others)
          (λ l i. values.values l (subst (λ (t : Trail). In l (trues t.entries)) (sym same) i)));
    }
