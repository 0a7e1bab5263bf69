use Rattle.std.proofs.Common.{◌≡◌, Some, None, [], IfSome, IfNone, IfOk, length, is_some, option_map, option_copied, sym, ◌∙◌, ap, subst}
use Rattle.map_core.specs.Opens.{opening_of}
use Rattle.worker_pool.specs.Outcomes.{IsEnded}
use Rattle.worker_pool.proofs.Penned.{told_back, parts_there}
use Rattle.worker_pool.proofs.pool.enumerate.Goals as goal

-- the journal and its seats, as they were given
pub returns-clause-journal : goal.returns-clause-journal
returns-clause-journal g c =
    let out = c.outcome_of.ensures in
    let parts = c.parts_of-journal.ensures in
    let lent = c.as_ref.ensures.value in
    told_back (λ v. v.items) _ c.args.journal c.outcome_of.result.journal (option_copied c.as_ref.result) c.parts_of-journal.result.1 c.share-ended.new.pens c.share-ended.result c.outcome_of.result.closing c.outcome_of.result.broken
    c.requires.opening.some c.requires.journal
    (subst (λ i. IfSome c.args.journal (λ x. (i ≡ Some x.0) × (c.parts_of-journal.result.1 ≡ x.1))) (sym lent) parts.some) (subst (λ i. IfNone c.args.journal ((i ≡ None) × (c.parts_of-journal.result.1.items ≡ []))) (sym lent) parts.none)
    c.share-ended.ensures.pens c.share-ended.ensures.untouched out.closed out.memory (out.journal ∙ ap (option_map (λ k. (k, c.share-ended.new.pens))) (sym lent))

-- what is left, with a journal or without one
pub returns-clause-outcome : goal.returns-clause-outcome
returns-clause-outcome g c =
    let o = opening_of c.args.problem.now c.args.records (length c.args.oracles.items) c.args.budget c.args.limit c.args.goal g.M.MapEngine.TOPS in
    let there = ap is_some c.as_ref.ensures.value ∙ parts_there (c.parts_of-journal.result.1.items ≡ []) c.args.journal c.parts_of-journal.result.0 c.parts_of-journal.result.1 c.parts_of-journal.ensures.some c.parts_of-journal.ensures.none in
    c.outcome_of.ensures.outcome o (is_some c.args.journal) (subst (λ k. IfOk c.share-ended.result (λ e. IsEnded o k e.0)) there c.share-ended.ensures.ended)
