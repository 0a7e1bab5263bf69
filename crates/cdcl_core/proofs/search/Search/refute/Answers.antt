use Rattle.std.proofs.Common.{◌∙◌}
use Rattle.learn_step.specs.Learnt.{start_of}
use Rattle.cdcl_core.proofs.SearchLemmas.{sound_reasoned}
use Rattle.cdcl_core.proofs.StateLemmas.{core_state, refuted_of}
use Rattle.cdcl_core.proofs.search.Search.refute.Goals as goal

pub log_core-requires-clause-reasoned : goal.log_core-requires-clause-reasoned
log_core-requires-clause-reasoned c =
    let s = c.args.self.now in sound_reasoned s.store.clauses c.args.assumed.now s.assumed_levels s.trail.entries c.requires.search.state.sound

-- the decisions that the core names are all assumed
pub returns-clause-refuted : goal.returns-clause-refuted
returns-clause-refuted c =
    let s = c.args.self.now in
    refuted_of s.trail.vars s.store.clauses c.log_core.new.store.clauses s.log c.log_core.new.log s.trail.entries c.args.assumed.now (start_of c.args.origin) s.assumed_levels c.in_ok-id.id c.requires.search.state
    c.in_ok-id.ensures.added c.requires.levels c.requires.start

pub returns-clause-search : goal.returns-clause-search
returns-clause-search c =
    let s = c.args.self.now in
    record {
      vars = c.log_core.ensures.vars ∙ c.requires.search.vars;
      kept = c.in_ok-id.ensures.kept c.requires.search.kept;
      state =
          core_state s.trail.vars s.store.clauses c.log_core.new.store.clauses s.log c.log_core.new.log s.trail.entries c.args.assumed.now (start_of c.args.origin) s.assumed_levels c.in_ok-id.id
          c.requires.search.state c.in_ok-id.ensures.added;
      reached = c.requires.search.reached;
      positive = c.requires.search.positive;
    }
