use Rattle.std.proofs.Common.{◌≡◌, ◌∙◌, ap, subst, sym, ℕ, List}
use Rattle.std.specs.Prelude.{ℤ, reverse}
use Rattle.trail_book.specs.Trail.{trues}
use Rattle.learn_step.specs.Learnt.{IsLearnt}
use Rattle.learn_step.specs.Analysis.{IsBroughtIn}
use Rattle.learn_step.proofs.AnalysisLemmas.{named_id, named_values, false_values}
use Rattle.learn_step.proofs.LearntLemmas.{above_begun, learnt_of}
use Rattle.learn_step.proofs.first_uip.learn.Goals as goal

pub bring_in-requires-clause-id : goal.bring_in-requires-clause-id
bring_in-requires-clause-id c = named_id c.args.store.now.clauses c.args.id c.requires.conflict.clause c.requires.conflict.named

-- all its literals are false
pub bring_in-requires-clause-values : goal.bring_in-requires-clause-values
bring_in-requires-clause-values c =
    named_values c.args.store.now.clauses c.args.id c.requires.conflict.clause (trues c.args.trail.now.entries) c.requires.conflict.named
    (false_values (trues c.args.trail.now.entries) c.requires.conflict.clause c.requires.conflict.is_false)

pub to_first_uip-requires-clause-above : goal.to_first_uip-requires-clause-above
to_first_uip-requires-clause-above c =
    let db = c.args.store.now.clauses in
    let es = c.args.trail.now.entries in
    let old = c.new-analysis.result in
    let new = c.bring_in.new.self in
    let brought = subst (λ (n : ℕ). IsBroughtIn db es c.args.id n old.places new.places old.hints.items new.hints.items) c.len.ensures c.in_ok-bring_in.ensures.brought_in in
    above_begun c.args.trail.now.vars db es c.args.id old.places new.places old.hints.items new.hints.items new.lits.items c.vars-vars.ensures.trail c.requires.level c.requires.conflict
    c.new-analysis.ensures.places (ap (λ v. v.items) c.in_ok-bring_in.ensures.lits ∙ c.new-analysis.ensures.lits) c.new-analysis.ensures.hints brought

pub returns : goal.returns
returns c =
    let db = c.args.store.now.clauses in
    let es = c.args.trail.now.entries in
    let uip = c.to_first_uip.new.analysis in
    let end = c.keep_others.new.analysis in
    let lits : c.finish.result.lits.items ≡ end.lits.items = ap (λ v. v.items) c.finish.ensures.lits in
    let learnt =
    learnt_of c.args.trail.now.vars db es uip.places uip.lits.items end.lits.items uip.hints.items end.hints.items c.in_ok-back_level.back_level c.vars-vars.ensures.trail c.in_ok-to_first_uip.ensures
    c.in_ok-back_level.ensures.analysis c.in_ok-back_level.ensures.kept in
    subst (λ (ls : List ℤ). IsLearnt db es ls c.finish.result.hints.items c.finish.result.back_level) (sym lits)
    (subst (λ (hs : List ℕ). IsLearnt db es end.lits.items hs c.finish.result.back_level) (sym c.finish.ensures.hints)
    (subst (IsLearnt db es end.lits.items (reverse end.hints.items)) (sym c.finish.ensures.back_level) learnt))
