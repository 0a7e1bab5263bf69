use Rattle.std.proofs.Common.{◌≡◌, ◌∙◌, [], refl, ap, sym, subst}
use Rattle.trail_book.specs.Trail.{Trail}
use Rattle.lrat_steps.specs.Log.{inputs_of}
use Rattle.lrat_steps.specs.Honest.{IsHonest}
use Rattle.propagate.proofs.NewLemmas.{kept_first}
use Rattle.cdcl_core.proofs.RootLemmas.{root_first, root_is}
use Rattle.cdcl_core.proofs.StateLemmas.{touched_is}
use Rattle.cdcl_core.proofs.ReadyLemmas.{search_root_free}
use Rattle.cdcl_core.proofs.solver.Solver.begin.Goals as goal

-- no clause, no value, no step
pub invariant_of-result : goal.invariant_of-result
invariant_of-result c =
    let store = c.in_ok-store.store in
    let trail = c.in_ok-trail.trail in
    let s = c.in_ok-store.ensures in
    let entries : trail.entries ≡ [] = ap (λ (t : Trail). t.entries) c.in_ok-trail.ensures in
    let vars : trail.vars ≡ c.args.vars = ap (λ (t : Trail). t.vars) c.in_ok-trail.ensures in
    let done : trail.done ≡ 0 = ap (λ (t : Trail). t.done) c.in_ok-trail.ensures in
    record {
      honest = subst IsHonest (sym c.requires.empty) tt;
      touched = touched_is c.args.true_first c.args.true_first trail.touched trail.touched [] (inputs_of c.args.log) refl refl (ap inputs_of c.requires.empty) (λ c i. absurd i);
      ready = λ b. record {
        assumed = [];
        search = search_root_free (record { log = c.args.log; store = store; trail = trail; rooted = 0; assumed_levels = 0; assumed_true = 0; conflicts = 0; parks = c.args.true_first; walked = 0; true_first = c.args.true_first; plan = c.in_ok-plan.plan; usage = c.new-3.result })
            (record {
              vars = s.vars ∙ sym vars;
              kept = kept_first store trail (s.vars ∙ sym vars) s.clauses s.watched s.heads s.tails s.parks s.false_id entries done;
              root = root_is c.args.vars trail.vars [] store.clauses [] c.args.log [] trail.entries vars s.clauses c.requires.empty entries (root_first c.args.vars);
            })
            refl;
      };
    }
