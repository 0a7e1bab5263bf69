use Rattle.std.proofs.Common.{◌∙◌, subst, sym, refl}
use Rattle.trail_book.specs.Trail.{keep}
use Rattle.cdcl_core.specs.State.{ArePositive}
use Rattle.cdcl_core.proofs.StateLemmas.{state_is}
use Rattle.cdcl_core.proofs.ResumeLemmas.{state_lower, positive_lower}
use Rattle.cdcl_core.proofs.search.Search.to_level.Goals as goal

-- what was assumed up to the level still is
pub returns-clause-ready : goal.returns-clause-ready
returns-clause-ready c =
    let s = c.args.self.now in
    let e = c.requires.search in
    let level = c.args.level in
    let b = c.back_to.ensures in
    let new = c.back_to.new.trail in
    let count = c.min-self.result in
    record {
      assumed = c.requires.assumed;
      search = record {
        vars = b.clauses.vars ∙ e.vars ∙ sym b.vars;
        kept = b.kept 0 e.kept;
        state = state_is s.trail.vars new.vars count s.store.clauses c.back_to.new.store.clauses s.log s.log (keep level s.trail.entries) new.entries c.requires.assumed b.vars b.clauses.clauses refl b.entries
            (state_lower s.trail.vars s.store.clauses s.log s.trail.entries c.requires.assumed s.assumed_levels level count c.min-self.ensures e.state);
        reached = λ l i. absurd i;
        positive = λ asked. subst (ArePositive count) (sym b.entries) (positive_lower s.trail.entries s.assumed_levels level count c.min-self.ensures (e.positive asked));
      };
    }
