use Rattle.std.proofs.Common.{◌≡◌, ◌∙◌, ℕ, List, take, refl, sym, subst, arith}
use Rattle.std.specs.Prelude.{ℤ}
use Rattle.std.proofs.lemmas.List.{take_all}
use Rattle.sat_base.specs.Members.{In}
use Rattle.sat_base.specs.Units.{AllTrue}
use Rattle.trail_book.specs.declared.entry.Entry.{Entry}
use Rattle.trail_book.specs.Trail.{trues, keep}
use Rattle.trail_book.proofs.TrailLemmas.{lit-keep_in}
use Rattle.learn_step.specs.Reasons.{IsDecision}
use Rattle.cdcl_core.specs.State.{ArePositive}
use Rattle.cdcl_core.proofs.StateLemmas.{state_is}
use Rattle.cdcl_core.proofs.ResumeLemmas.{state_shared, state_whole, positive_shared}
use Rattle.cdcl_core.proofs.search.Search.resume.Goals as goal

-- the levels that stay were decided as assumed literals
pub returns-clause-search : goal.returns-clause-search
returns-clause-search c =
    let s = c.args.self.now in
    let e = c.requires.ready.search in
    let n = c.shared-levels.result in
    let l = c.shared-levels.ensures in
    let b = c.back_to.ensures in
    let new = c.back_to.new.trail in
    record {
      vars = b.clauses.vars ∙ e.vars ∙ sym b.vars;
      kept = b.kept 0 e.kept;
      state = state_is s.trail.vars new.vars n s.store.clauses c.back_to.new.store.clauses s.log s.log (keep n s.trail.entries) new.entries c.args.assumed.now b.vars b.clauses.clauses refl b.entries
          (state_shared s.trail.vars s.store.clauses s.log s.trail.entries c.requires.ready.assumed c.args.assumed.now s.assumed_levels n l.most l.decided e.state);
      reached = subst (λ (xs : List Entry). AllTrue (trues xs) (take c.shared-levels.new.reached c.args.assumed.now)) (sym b.entries) l.reached;
      positive = λ asked. subst (ArePositive n) (sym b.entries) (positive_shared s.trail.entries s.assumed_levels n (e.positive asked));
    }

-- all assumed levels stay, and with them the choices
pub returns-then-reached-assumed-clause-search : goal.returns-then-reached-assumed-clause-search
returns-then-reached-assumed-clause-search c =
    let s = c.args.self.now in
    let es = s.trail.entries in
    let assumed = c.args.assumed.now in
    let e = c.requires.ready.search in
    let l = c.shared-levels.ensures in
    let reached = c.shared-levels.new.reached in
    let same : c.shared-levels.result ≡ s.assumed_levels = c.if-levels-self.true in
    let on : AllTrue (trues (keep s.assumed_levels es)) assumed =
    subst (λ (n : ℕ). AllTrue (trues (keep n es)) assumed) same (subst (AllTrue (trues (keep c.shared-levels.result es))) (take_all reached assumed (omega (arith, c.if-reached-assumed.true))) l.reached) in
    record {
      vars = e.vars;
      kept = e.kept;
      state = state_whole s.trail.vars s.store.clauses s.log es c.requires.ready.assumed assumed s.assumed_levels on (subst (λ (n : ℕ). (m : ℤ) → IsDecision (keep n es) m → In m assumed) same l.decided) e.state;
      reached = λ m i. lit-keep_in c.shared-levels.result es m (l.reached m i);
      positive = e.positive;
    }
