use Rattle.std.proofs.Common.{◌≡◌, ◌∷◌, [], ◌++◌, arith, subst, sym, ap, ◌∙◌, List, length, ℕ, Some, None, inl, inr}
use Rattle.std.specs.Prelude.{ℤ, true}
use Rattle.sat_base.specs.Members.{In}
use Rattle.sat_base.specs.Literals.{IsLiteral, AreLiterals}
use Rattle.trail_book.specs.declared.entry.Entry.{Entry}
use Rattle.trail_book.specs.Trail.{Trail, trues, keep}
use Rattle.propagate.specs.Entrance.{IsUnwatched}
use Rattle.propagate.proofs.KeptLemmas.{kept_same}
use Rattle.lrat_steps.specs.Log.{Learned}
use Rattle.cdcl_core.specs.Entrance.{IsAsserting}
use Rattle.propagate.proofs.NewLemmas.{new_kept, new_clause, unwatched_same}
use Rattle.cdcl_core.proofs.ActivityLemmas.{hint_is_id}
use Rattle.cdcl_core.proofs.EntranceLemmas.{asserts}
use Rattle.trail_book.proofs.TrailLemmas.{top-keep}
use Rattle.cdcl_core.specs.State.{ArePositive}
use Rattle.cdcl_core.proofs.PositiveLemmas.{positive_keep, positive_recount}
use Rattle.cdcl_core.proofs.SearchLemmas.{sound_reasoned}
use Rattle.cdcl_core.proofs.StateLemmas.{conflict_of, learned_state, learned_recorded, learned_first, reached_below, paid_learned, state_is, first_is, literals_from, used_literal}
use Rattle.cdcl_core.proofs.search.Search.learn_from.Goals as goal

pub learn-requires-clause-reasoned : goal.learn-requires-clause-reasoned
learn-requires-clause-reasoned c =
    let s = c.args.self.now in sound_reasoned s.store.clauses c.args.assumed.now s.assumed_levels s.trail.entries c.requires.search.state.sound

-- nothing was left to propagate before the last decision, so the falsified clause has a literal of the top level
pub learn-requires-clause-conflict : goal.learn-requires-clause-conflict
learn-requires-clause-conflict c =
    let s = c.args.self.now in
    conflict_of s.trail.vars s.store.clauses s.log s.trail.entries c.args.assumed.now s.assumed_levels c.args.id c.requires.search.state c.requires.falsified c.requires.choice

pub add_step-requires : goal.add_step-requires
add_step-requires c =
    let s = c.args.self.now in
    let lits = c.in_ok-learnt.learnt.lits.items in
    let used = c.in_ok-learnt.ensures.used in
    let over : (l : ℤ) → In l lits → IsLiteral s.trail.vars l = λ l i. used_literal s.trail.vars s.store.clauses l c.requires.search.state.recorded.over (used l i) in
    subst (λ (n : ℕ). AreLiterals n c.deref.result.now) (sym c.requires.search.vars) (subst (AreLiterals s.trail.vars) (sym c.deref.ensures.value) (literals_from s.trail.vars lits over))

pub bump_conflict-requires-clause-literals : goal.bump_conflict-requires-clause-literals
bump_conflict-requires-clause-literals c =
    let s = c.args.self.now in
    let used = c.in_ok-learnt.ensures.used in
    subst (AreLiterals s.trail.vars) (sym c.deref-lits.ensures.value)
    (literals_from s.trail.vars c.in_ok-learnt.learnt.lits.items (λ l i. used_literal s.trail.vars s.store.clauses l c.requires.search.state.recorded.over (used l i)))

-- a clause follows by clauses of the store
pub bump_conflict-requires-clause-hints : goal.bump_conflict-requires-clause-hints
bump_conflict-requires-clause-hints c = λ id i.
    let s = c.args.self.now in
    let learnt = c.in_ok-learnt.learnt in
    let hints_are : c.deref-hints.result.now ≡ learnt.hints.items = cc in
    hint_is_id s.store.clauses learnt.lits.items learnt.hints.items id c.in_ok-learnt.ensures.follows (subst (λ (hs : List ℕ). In id hs) hints_are i)

-- all is kept but of the new clause, also where the trail has gone back
pub enter_learnt-requires-clause-kept : goal.enter_learnt-requires-clause-kept
enter_learnt-requires-clause-kept c =
    let s = c.args.self.now in
    let lits = c.in_ok-learnt.learnt.lits.items in
    let back = c.in_ok-learnt.learnt.back_level in
    let r = c.in_ok-learnt.ensures in
    let id = c.in_ok-reason.reason in
    let stored : c.add_step.new.store.clauses ≡ s.store.clauses ++ record { lits = lits; live = true } ∷ [] =
    c.in_ok-reason.ensures.stored ∙ ap (λ (ls : List ℤ). s.store.clauses ++ record { lits = ls; live = true } ∷ []) c.deref.ensures.value in
    let re = c.bump_conflict.ensures in
    c.back_to.ensures.kept id (kept_same c.add_step.new.store s.trail c.bump_conflict.new.trail id (ap (λ (t : Trail). t.entries) re) (ap (λ (t : Trail). t.vars) re) (ap (λ (t : Trail). t.done) re)
    (new_kept s.store c.add_step.new.store s.trail id lits c.requires.search.kept c.add_step.ensures.links stored c.add_step.ensures.vars c.in_ok-reason.ensures.id))

pub enter_learnt-requires-clause-unwatched : goal.enter_learnt-requires-clause-unwatched
enter_learnt-requires-clause-unwatched c =
    let s = c.args.self.now in
    let lits = c.in_ok-learnt.learnt.lits.items in
    let back = c.in_ok-learnt.learnt.back_level in
    let r = c.in_ok-learnt.ensures in
    let id = c.in_ok-reason.reason in
    let stored : c.add_step.new.store.clauses ≡ s.store.clauses ++ record { lits = lits; live = true } ∷ [] =
    c.in_ok-reason.ensures.stored ∙ ap (λ (ls : List ℤ). s.store.clauses ++ record { lits = ls; live = true } ∷ []) c.deref.ensures.value in
    subst (λ (ls : List ℤ). IsUnwatched c.back_to.new.store id ls) (sym c.deref-3.ensures.value)
    (unwatched_same c.add_step.new.store c.back_to.new.store id lits c.back_to.ensures.clauses.clauses c.back_to.ensures.watched
    (new_clause s.store c.add_step.new.store s.trail id lits c.requires.search.kept c.add_step.ensures.links stored c.in_ok-reason.ensures.id))

pub enter_learnt-requires-clause-literal : goal.enter_learnt-requires-clause-literal
enter_learnt-requires-clause-literal c =
    let s = c.args.self.now in
    let learnt = c.in_ok-learnt.learnt in
    let r = c.in_ok-learnt.ensures in
    let first = first_is learnt.lits.items r.rest c.index-first.result.now r.first r.is c.index-first.ensures in
    let lit =
    learned_first s.trail.vars s.store.clauses s.log s.trail.entries c.args.assumed.now s.assumed_levels learnt.back_level learnt.lits.items learnt.hints.items c.requires.search.state r in
    let re = c.bump_conflict.ensures in
    let vars_back : c.back_to.new.trail.vars ≡ s.trail.vars = c.back_to.ensures.vars ∙ ap (λ (t : Trail). t.vars) re in
    subst (λ (n : ℕ). IsLiteral n c.index-first.result.now) (sym vars_back) (subst (IsLiteral s.trail.vars) (sym first) lit.1)

-- on the trail that is left the clause forces its first literal
pub enter_learnt-requires-clause-asserting : goal.enter_learnt-requires-clause-asserting
enter_learnt-requires-clause-asserting c =
    let s = c.args.self.now in
    let learnt = c.in_ok-learnt.learnt in
    let r = c.in_ok-learnt.ensures in
    let first = first_is learnt.lits.items r.rest c.index-first.result.now r.first r.is c.index-first.ensures in
    let lit =
    learned_first s.trail.vars s.store.clauses s.log s.trail.entries c.args.assumed.now s.assumed_levels learnt.back_level learnt.lits.items learnt.hints.items c.requires.search.state r in
    let asserting = asserts s.store.clauses s.trail.entries learnt.lits.items learnt.hints.items learnt.back_level r lit.0 in
    let entries_back : c.back_to.new.trail.entries ≡ keep learnt.back_level s.trail.entries =
    c.back_to.ensures.entries ∙ ap (λ (t : Trail). keep learnt.back_level t.entries) c.bump_conflict.ensures in
    subst (λ (xs : List Entry). IsAsserting xs c.deref-3.result.now c.index-first.result.now) (sym entries_back)
    (subst (λ (ls : List ℤ). IsAsserting (keep learnt.back_level s.trail.entries) ls c.index-first.result.now) (sym c.deref-3.ensures.value)
    (subst (λ (l : ℤ). IsAsserting (keep learnt.back_level s.trail.entries) learnt.lits.items l) (sym first) asserting))

pub returns-clause-search : goal.returns-clause-search
returns-clause-search c =
    let s = c.args.self.now in
    let db = s.store.clauses in
    let es = s.trail.entries in
    let assumed = c.args.assumed.now in
    let count = s.assumed_levels in
    let lits = c.in_ok-learnt.learnt.lits.items in
    let hints = c.in_ok-learnt.learnt.hints.items in
    let back = c.in_ok-learnt.learnt.back_level in
    let r = c.in_ok-learnt.ensures in
    let id = c.in_ok-reason.reason in
    let hints_are : c.deref-2.result.now ≡ hints = cc in
    let logged : c.add_step.new.log ≡ s.log ++ Learned lits hints ∷ [] =
    c.in_ok-reason.ensures.logged ∙ ap (λ (ls : List ℤ). s.log ++ Learned ls c.deref-2.result.now ∷ []) c.deref.ensures.value
    ∙ ap (λ (hs : List ℕ). s.log ++ Learned lits hs ∷ []) hints_are in
    let stored : c.add_step.new.store.clauses ≡ db ++ record { lits = lits; live = true } ∷ [] =
    c.in_ok-reason.ensures.stored ∙ ap (λ (ls : List ℤ). db ++ record { lits = ls; live = true } ∷ []) c.deref.ensures.value in
    let first = first_is lits r.rest c.index-first.result.now r.first r.is c.index-first.ensures in
    let id_is : id ≡ length (db ++ record { lits = lits; live = true } ∷ []) = c.in_ok-reason.ensures.id ∙ ap length stored in
    let re = c.bump_conflict.ensures in
    let entries_back : c.back_to.new.trail.entries ≡ keep back s.trail.entries = c.back_to.ensures.entries ∙ ap (λ (t : Trail). keep back t.entries) re in
    let vars_back : c.back_to.new.trail.vars ≡ s.trail.vars = c.back_to.ensures.vars ∙ ap (λ (t : Trail). t.vars) re in
    let entries : c.enter_learnt.new.trail.entries ≡ record { lit = r.first; reason = Some id; unit = None } ∷ keep back es =
    c.enter_learnt.ensures.entries ∙ ap (λ (l : ℤ). record { lit = l; reason = Some id; unit = None } ∷ c.back_to.new.trail.entries) first
    ∙ ap (λ (xs : List Entry). record { lit = r.first; reason = Some id; unit = None } ∷ xs) entries_back in
    let vars : c.enter_learnt.new.trail.vars ≡ s.trail.vars = c.enter_learnt.ensures.vars ∙ vars_back in
    let reached =
    reached_below db assumed count back c.reached_at-self.result es c.requires.search.state.sound r.back.below (elim c.reached_at-self.ensures [ inl none ↦ inl none | inr kept ↦ inr kept.0 ]) in
    record {
      vars = c.enter_learnt.ensures.store_vars ∙ c.back_to.ensures.clauses.vars ∙ c.add_step.ensures.vars ∙ c.requires.search.vars ∙ sym vars;
      kept = c.enter_learnt.ensures.kept;
      state =
          state_is s.trail.vars c.enter_learnt.new.trail.vars c.min-self.result (db ++ record { lits = lits; live = true } ∷ []) c.enter_learnt.new.store.clauses (s.log ++ Learned lits hints ∷ []) c.add_step.new.log
          (record { lit = r.first; reason = Some id; unit = None } ∷ keep back es) c.enter_learnt.new.trail.entries assumed vars (c.enter_learnt.ensures.clauses ∙ c.back_to.ensures.clauses.clauses ∙ stored) logged entries
          (learned_state s.trail.vars db s.log es assumed count id back c.min-self.result lits hints c.requires.search.state r c.requires.choice id_is c.min-self.ensures);
      reached = λ l i. subst (λ (xs : List Entry). In l (trues xs)) (sym entries) (inr (reached l i));
      positive = λ asked.
          let most = top-keep back es in
          let new = c.min-self.result in
          subst (ArePositive new) (sym entries)
          (tt, positive_recount count new (keep back es) (λ n low above. omega (arith, most, low, above, c.min-self.ensures)) (positive_keep count back es (c.requires.search.positive asked)));
    }

pub returns-clause-paid : goal.returns-clause-paid
returns-clause-paid c =
    let s = c.args.self.now in
    let left = c.args.purse.now.left in
    let lits = c.in_ok-learnt.learnt.lits.items in
    let hints = c.in_ok-learnt.learnt.hints.items in
    let hints_are : c.deref-2.result.now ≡ hints = cc in
    let logged : c.add_step.new.log ≡ s.log ++ Learned lits hints ∷ [] =
    c.in_ok-reason.ensures.logged ∙ ap (λ (ls : List ℤ). s.log ++ Learned ls c.deref-2.result.now ∷ []) c.deref.ensures.value
    ∙ ap (λ (hs : List ℕ). s.log ++ Learned lits hs ∷ []) hints_are in
    let recorded =
    learned_recorded s.trail.vars s.store.clauses s.log s.trail.entries c.args.assumed.now s.assumed_levels c.in_ok-learnt.learnt.back_level lits hints c.requires.search.state c.in_ok-learnt.ensures c.requires.choice in
    rw logged (paid_learned s.log lits hints left _ recorded.honest (omega (arith, c.requires.purse)))

-- it has just come, so all but it is kept, and with that where each watch hangs
pub back_to-requires-clause-hung : goal.back_to-requires-clause-hung
back_to-requires-clause-hung c =
    let s = c.args.self.now in
    let lits = c.in_ok-learnt.learnt.lits.items in
    let id = c.in_ok-reason.reason in
    let stored : c.add_step.new.store.clauses ≡ s.store.clauses ++ record { lits = lits; live = true } ∷ [] =
    c.in_ok-reason.ensures.stored ∙ ap (λ (ls : List ℤ). s.store.clauses ++ record { lits = ls; live = true } ∷ []) c.deref.ensures.value in
    let re = c.bump_conflict.ensures in
    (kept_same c.add_step.new.store s.trail c.bump_conflict.new.trail id (ap (λ (t : Trail). t.entries) re) (ap (λ (t : Trail). t.vars) re) (ap (λ (t : Trail). t.done) re)
    (new_kept s.store c.add_step.new.store s.trail id lits c.requires.search.kept c.add_step.ensures.links stored c.add_step.ensures.vars c.in_ok-reason.ensures.id)).hung

pub returns-clause-unit : goal.returns-clause-unit
returns-clause-unit c = omega (arith, c.requires.purse)
