use Rattle.propagate.proofs.KeptLemmas.{kept_links}
use Rattle.propagate.proofs.NewLemmas.{new_clause, new_kept}
use Rattle.propagate.proofs.UnparkedLemmas.{unparked_same}
use Rattle.trail_trials.proofs.bench.Bench.add.Goals as goal

-- where memory was wanting no clause came
pub invariant_of-self : goal.invariant_of-self
invariant_of-self c =
    let b = c.self.inside in
    let e = c.in_err-id.ensures in
    let a = c.add.ensures in (
      kept_links b.store c.add.new.self b.trail 0 a.links e.err a.vars c.self.invariant.0,
      λ none. unparked_same b.store c.add.new.self a.vars a.links.parks (c.self.invariant.1 none),
    )

-- the clause comes to its lists
pub invariant_of-self-2 : goal.invariant_of-self-2
invariant_of-self-2 c =
    let b = c.self.inside in
    let a = c.add.ensures in (
      c.enter.ensures.kept,
      λ none. c.enter.ensures.unparked (unparked_same b.store c.add.new.self a.vars a.links.parks (c.self.invariant.1 none)),
    )

pub enter-requires-clause-kept : goal.enter-requires-clause-kept
enter-requires-clause-kept c =
    let b = c.self.inside in
    let e = c.in_ok-id.ensures in
    new_kept b.store c.add.new.self b.trail c.in_ok-id.id c.args.lits.now c.self.invariant.0 c.add.ensures.links e.added c.add.ensures.vars e.id

pub enter-requires-clause-unwatched : goal.enter-requires-clause-unwatched
enter-requires-clause-unwatched c =
    let b = c.self.inside in
    let e = c.in_ok-id.ensures in
    new_clause b.store c.add.new.self b.trail c.in_ok-id.id c.args.lits.now c.self.invariant.0 c.add.ensures.links e.added e.id
