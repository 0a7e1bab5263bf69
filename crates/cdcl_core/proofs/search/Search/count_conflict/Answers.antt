use Rattle.std.proofs.Common.{◌∙◌, List, take, subst, sym, refl}
use Rattle.sat_base.specs.Units.{AllTrue}
use Rattle.trail_book.specs.declared.entry.Entry.{Entry}
use Rattle.trail_book.specs.Trail.{trues, keep}
use Rattle.cdcl_core.proofs.StateLemmas.{state_is}
use Rattle.cdcl_core.proofs.RestartLemmas.{state_restart, reached_restart}
use Rattle.cdcl_core.specs.State.{ArePositive}
use Rattle.cdcl_core.proofs.PositiveLemmas.{positive_keep}
use Rattle.cdcl_core.proofs.search.Search.count_conflict.Goals as goal

-- choices are taken back, and what holds up to the assumed levels still does
pub returns-clause-search : goal.returns-clause-search
returns-clause-search c = λ assumed search.
    let s = c.args.self.now in
    let db = s.store.clauses in
    let es = s.trail.entries in
    let count = s.assumed_levels in
    let level = c.reused_level-level.result in
    let above = c.reused_level-level.ensures in
    let new = c.back_to.new.trail in
    let back = c.back_to.ensures in
    record {
      vars = back.clauses.vars ∙ search.vars ∙ sym back.vars;
      kept = back.kept 0 search.kept;
      state = state_is s.trail.vars new.vars count db c.back_to.new.store.clauses s.log s.log (keep level es) new.entries assumed back.vars back.clauses.clauses refl back.entries
          (state_restart s.trail.vars db s.log es assumed count level above search.state);
      reached = subst (λ (xs : List Entry). AllTrue (trues xs) (take s.assumed_true assumed)) (sym back.entries)
          (reached_restart db assumed count level s.assumed_true es above search.state.sound search.reached);
      positive = λ asked. subst (ArePositive count) (sym back.entries) (positive_keep count level es (search.positive asked));
    }
