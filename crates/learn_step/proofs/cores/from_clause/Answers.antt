use Rattle.std.proofs.Common.{◌∙◌, ap, subst, ℕ}
use Rattle.trail_book.specs.Trail.{trues}
use Rattle.learn_step.specs.Analysis.{IsBroughtIn}
use Rattle.learn_step.proofs.AnalysisLemmas.{named_id, named_values, false_values}
use Rattle.learn_step.proofs.CoreLemmas.{core_false}
use Rattle.learn_step.proofs.cores.from_clause.Goals as goal

pub bring_in-requires-clause-id : goal.bring_in-requires-clause-id
bring_in-requires-clause-id c = named_id c.args.store.now.clauses c.args.id c.requires.clause c.requires.named

-- all its literals are false
pub bring_in-requires-clause-values : goal.bring_in-requires-clause-values
bring_in-requires-clause-values c =
    named_values c.args.store.now.clauses c.args.id c.requires.clause (trues c.args.trail.now.entries) c.requires.named
    (false_values (trues c.args.trail.now.entries) c.requires.clause c.requires.is_false)

pub returns-clause-core : goal.returns-clause-core
returns-clause-core c =
    let db = c.args.store.now.clauses in
    let es = c.args.trail.now.entries in
    let old = c.new-analysis.result in
    let new = c.bring_in.new.self in
    let brought = subst (λ (n : ℕ). IsBroughtIn db es c.args.id n old.places new.places old.hints.items new.hints.items) c.len.ensures c.in_ok-bring_in.ensures.brought_in in
    core_false c.args.trail.now.vars db es c.args.id old.places new.places old.hints.items new.hints.items new.lits.items c.vars-vars.ensures.trail c.requires c.new-analysis.ensures.places
    (ap (λ v. v.items) c.in_ok-bring_in.ensures.lits ∙ c.new-analysis.ensures.lits) c.new-analysis.ensures.hints brought
