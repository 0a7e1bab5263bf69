use Rattle.std.proofs.Common.{◌≡◌, ℕ, List, subst, sym, ◌∙◌, arith, take}
use Rattle.sat_base.specs.Members.{In}
use Rattle.sat_base.specs.Database.{StoredClause}
use Rattle.trail_book.specs.Trail.{top, IsTrail}
use Rattle.cdcl_core.specs.State.{IsState, IsRoot}
use Rattle.propagate.proofs.GrowsLemmas.{top_grows}
use Rattle.cdcl_core.proofs.SearchLemmas.{length_grows, in_grows}
use Rattle.cdcl_core.proofs.StateLemmas.{grown_state}
use Rattle.cdcl_core.proofs.RootLemmas.{root_of, root_start}
use Rattle.cdcl_core.proofs.PositiveLemmas.{positive_root, positive_grows}
use Rattle.cdcl_core.proofs.UnitLemmas.{same_length}
use Rattle.cdcl_core.proofs.search.Search.spread.Goals as goal

pub log_units-requires : goal.log_units-requires
log_units-requires c =
    let s = c.args.self.now in
    let told = c.propagate_by-told.ensures in
    let es = c.propagate_by-told.new.trail.entries in
    let level : top es ≡ 0 = omega (arith, c.top.ensures, c.if-top-eq0.true) in
    let state = grown_state s.trail.vars s.store.clauses s.log s.trail.entries es c.args.assumed.now s.assumed_levels c.requires.state told.grows (subst (λ (n : ℕ). IsTrail n es) told.vars told.trail) in
    record {
      vars = told.kept.vars;
      kept = told.kept;
      root = subst (λ (db : List StoredClause). IsRoot c.propagate_by-told.new.trail.vars db s.log es) (sym told.clauses.clauses)
          (subst (λ (n : ℕ). IsRoot n s.store.clauses s.log es) (sym told.vars) (root_of s.trail.vars s.store.clauses s.log es c.args.assumed.now s.assumed_levels state level));
    }

-- at level 0 nothing is decided, so that no level is one of assumed literals
pub returns-in_ok-log_units-clause-search : goal.returns-in_ok-log_units-clause-search
returns-in_ok-log_units-clause-search c =
    let s = c.args.self.now in
    let new = c.log_units.new.self in
    let told = c.propagate_by-told.ensures in
    let es = c.propagate_by-told.new.trail.entries in
    let r = c.in_ok-log_units.ensures in
    let level : top es ≡ 0 = omega (arith, c.top.ensures, c.if-top-eq0.true) in
    let same = top_grows s.store.clauses s.trail.entries es told.grows in
    let levels = c.requires.state.levels in
    let none : new.assumed_levels ≡ 0 = r.keeps.levels_are ∙ (let e : s.assumed_levels ≡ 0 = omega (arith, level, same, levels) in e) in
    record {
      vars = r.at_root.vars;
      kept = r.at_root.kept;
      state = subst (IsState new.trail.vars new.store.clauses new.log new.trail.entries c.args.assumed.now) (sym none)
          (root_start new.trail.vars new.store.clauses new.log new.trail.entries c.args.assumed.now r.at_root.root);
      reached = λ l i.
          subst (In l) (sym r.keeps.trues_are)
          (in_grows s.store.clauses s.trail.entries es l told.grows (c.requires.reached l (subst (λ (n : ℕ). In l (take n c.args.assumed.now)) r.keeps.reached_is i)));
      positive = λ asked. positive_root new.assumed_levels new.trail.entries r.at_root.root.level;
    }

pub returns-in_ok-log_units-clause-grows : goal.returns-in_ok-log_units-clause-grows
returns-in_ok-log_units-clause-grows c =
    let s = c.args.self.now in
    let es = c.propagate_by-told.new.trail.entries in
    let grown = length_grows s.store.clauses s.trail.entries es c.propagate_by-told.ensures.grows in
    let same = same_length es c.log_units.new.self.trail.entries c.in_ok-log_units.ensures.keeps.trues_are in
    omega (arith, grown, same)

pub returns-else-top-eq0-clause-search : goal.returns-else-top-eq0-clause-search
returns-else-top-eq0-clause-search c =
    let s = c.args.self.now in
    let told = c.propagate_by-told.ensures in
    let es = c.propagate_by-told.new.trail.entries in
    let state = grown_state s.trail.vars s.store.clauses s.log s.trail.entries es c.args.assumed.now s.assumed_levels c.requires.state told.grows (subst (λ (n : ℕ). IsTrail n es) told.vars told.trail) in
    record {
      vars = told.kept.vars;
      kept = told.kept;
      state = subst (λ (db : List StoredClause). IsState c.propagate_by-told.new.trail.vars db s.log es c.args.assumed.now s.assumed_levels) (sym told.clauses.clauses)
          (subst (λ (n : ℕ). IsState n s.store.clauses s.log es c.args.assumed.now s.assumed_levels) (sym told.vars) state);
      reached = λ l i. in_grows s.store.clauses s.trail.entries es l told.grows (c.requires.reached l i);
      positive = λ asked. positive_grows s.store.clauses s.assumed_levels s.trail.entries es told.grows (c.requires.positive asked);
    }

pub returns-else-top-eq0-clause-grows : goal.returns-else-top-eq0-clause-grows
returns-else-top-eq0-clause-grows c = length_grows c.args.self.now.store.clauses c.args.self.now.trail.entries c.propagate_by-told.new.trail.entries c.propagate_by-told.ensures.grows
