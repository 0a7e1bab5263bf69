use Rattle.std.proofs.Common.{◌≡◌, ◌∷◌, [], ◌++◌, true, Bool, ℕ, List, min, subst, sym, refl, ap, ◌∙◌}
use Rattle.sat_base.specs.Literals.{AreLiterals}
use Rattle.sat_base.specs.Database.{StoredClause}
use Rattle.trail_book.specs.Trail.{Trail, top, keep, IsTrail, IsTouched}
use Rattle.propagate.specs.Propagation.{Grows}
use Rattle.propagate.proofs.KeptLemmas.{kept_links, kept_same}
use Rattle.propagate.proofs.NewLemmas.{new_clause, new_kept}
use Rattle.lrat_steps.specs.Log.{Input, inputs_of}
use Rattle.lrat_steps.specs.Honest.{IsHonest}
use Rattle.lrat_steps.proofs.LogLemmas.{honest-input}
use Rattle.cdcl_core.specs.Solver.{Solver}
use Rattle.cdcl_core.specs.State.{ArePositive}
use Rattle.cdcl_core.proofs.StateLemmas.{state_is, touched_is}
use Rattle.cdcl_core.proofs.ReadyLemmas.{added_state, added_positive, added_touched}
use Rattle.cdcl_core.proofs.solver.Solver.add.Goals as goal

pub add_step-requires : goal.add_step-requires
add_step-requires c =
    let lits = c.args.lits.now in
    let r = (c.self.invariant.ready c.if-self.false).search in
    subst (λ (n : ℕ). AreLiterals n lits) (sym r.vars) (subst (λ (v : Solver). AreLiterals v.vars lits) (sym c.self.view_is) c.requires)

-- all is kept but of the new clause
pub enter-requires-clause-kept : goal.enter-requires-clause-kept
enter-requires-clause-kept c =
    let s = c.self.inside.search in
    let e = c.in_ok-id.ensures in
    new_kept s.store c.add_step.new.store s.trail c.in_ok-id.id c.args.lits.now (c.self.invariant.ready c.if-self.false).search.kept c.add_step.ensures.links e.stored c.add_step.ensures.vars e.id

pub enter-requires-clause-unwatched : goal.enter-requires-clause-unwatched
enter-requires-clause-unwatched c =
    let s = c.self.inside.search in
    let e = c.in_ok-id.ensures in
    new_clause s.store c.add_step.new.store s.trail c.in_ok-id.id c.args.lits.now (c.self.invariant.ready c.if-self.false).search.kept c.add_step.ensures.links e.stored e.id

-- nothing has changed
pub invariant_of-self : goal.invariant_of-self
invariant_of-self c =
    let s = c.self.inside.search in
    let e = c.in_err-id.ensures in
    record {
      honest = subst IsHonest (sym e.log_err) c.self.invariant.honest;
      touched = touched_is s.true_first s.true_first s.trail.touched s.trail.touched (inputs_of s.log) (inputs_of c.add_step.new.log) refl refl (ap inputs_of e.log_err) c.self.invariant.touched;
      ready = λ b.
          let ready = c.self.invariant.ready b in
          let r = ready.search in
          record {
            assumed = ready.assumed;
            search = record {
              vars = c.add_step.ensures.vars ∙ r.vars;
              kept = kept_links s.store c.add_step.new.store s.trail 0 c.add_step.ensures.links e.store_err c.add_step.ensures.vars r.kept;
              state = state_is s.trail.vars s.trail.vars s.assumed_levels s.store.clauses c.add_step.new.store.clauses s.log c.add_step.new.log s.trail.entries s.trail.entries ready.assumed refl e.store_err e.log_err refl r.state;
              reached = r.reached;
              positive = r.positive;
            };
          };
    }

-- what the clause left of the trail is a search under the same assumed literals, those of the levels that stay
pub invariant_of-self-2 : goal.invariant_of-self-2
invariant_of-self-2 c =
    let s = c.self.inside.search in
    let lits = c.args.lits.now in
    let over : AreLiterals s.trail.vars lits = subst (λ (v : Solver). AreLiterals v.vars lits) (sym c.self.view_is) c.requires in
    let logged : c.add_step.new.log ≡ s.log ++ Input lits ∷ [] = c.in_ok-id.ensures.logged in
    let stored = c.in_ok-id.ensures.stored in
    let e = c.enter.ensures in
    let es = s.trail.entries in
    let new = c.enter.new.trail in
    let last = c.touch_all.new.trail in
    let rest = c.touch_all.ensures.rest in
    let entries : last.entries ≡ new.entries = ap (λ (t : Trail). t.entries) rest in
    let vars : last.vars ≡ new.vars = ap (λ (t : Trail). t.vars) rest in
    record {
      honest = subst IsHonest (sym logged) (honest-input s.log lits c.self.invariant.honest);
      touched = added_touched s.true_first s.trail.touched last.touched s.log c.add_step.new.log lits logged c.self.invariant.touched
          (λ l t. c.touch_all.ensures.stay l (subst (λ (bs : List Bool). IsTouched bs l) (sym e.touched) t)) c.touch_all.ensures.touched;
      ready = λ b.
          let ready = c.self.invariant.ready b in
          let r = ready.search in
          let db = s.store.clauses ++ record { lits = lits; live = true } ∷ [] in
          let left = c.min-search.result in
          let left_is : left ≡ min s.assumed_levels (top new.entries) = c.min-search.ensures ∙ ap (λ (n : ℕ). min s.assumed_levels n) c.top.ensures in
          let grows : Grows db (keep (top new.entries) es) new.entries = subst (λ (d : List StoredClause). Grows d (keep (top new.entries) es) new.entries) stored e.grows in
          let state = added_state s.trail.vars s.store.clauses s.log es new.entries lits ready.assumed s.assumed_levels left grows left_is r.state over e.loose (subst (λ (n : ℕ). IsTrail n new.entries) e.vars e.trail) in
          record {
            assumed = ready.assumed;
            search = record {
              vars = e.kept.vars ∙ sym vars;
              kept = kept_same c.enter.new.store new last 0 entries vars (ap (λ (t : Trail). t.done) rest) e.kept;
              state = state_is s.trail.vars last.vars left db c.enter.new.store.clauses (s.log ++ Input lits ∷ []) c.add_step.new.log new.entries last.entries ready.assumed (vars ∙ e.vars) (e.clauses ∙ stored) logged entries state;
              reached = λ l i. absurd i;
              positive = λ asked. subst (ArePositive left) (sym entries) (added_positive s.trail.vars s.store.clauses s.log es new.entries lits ready.assumed s.assumed_levels left grows left_is (r.positive asked));
            };
          };
    }

pub returns-clause-ok : goal.returns-clause-ok
returns-clause-ok c = rw (← c.self.view_is, ap (λ (t : Trail). t.vars) c.touch_all.ensures.rest, c.enter.ensures.vars, c.in_ok-id.ensures.logged) refl
