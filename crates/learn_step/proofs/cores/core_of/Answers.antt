use Rattle.std.proofs.Common.{◌≡◌, [], ap, subst, sym, List}
use Rattle.std.specs.Prelude.{ℤ}
use Rattle.learn_step.specs.Learnt.{IsCore, start_of}
use Rattle.learn_step.specs.Analysis.{IsCoreAnalysis}
use Rattle.learn_step.proofs.CoreLemmas.{core_of_analysis}
use Rattle.learn_step.proofs.cores.core_of.Goals as goal

-- nothing is left to look at
pub returns-clause-core : goal.returns-clause-core
returns-clause-core c =
    let db = c.args.store.now.clauses in
    let es = c.args.trail.now.entries in
    let start = start_of c.args.origin in
    let end = c.to_decisions.new.analysis in
    let lits : c.finish.result.lits.items ≡ end.lits.items = ap (λ v. v.items) c.finish.ensures.lits in
    let at_end = subst (λ (ls : List ℤ). IsCoreAnalysis db es ls [] end.lits.items end.hints.items) c.in_ok-analysis.ensures.lits c.in_ok-to_decisions.ensures in
    let core = core_of_analysis c.args.trail.now.vars db es start end.lits.items end.hints.items c.vars-vars.ensures.trail at_end in
    subst (λ (ls : List ℤ). IsCore db es start ls c.finish.result.hints.items) (sym lits) (subst (IsCore db es start end.lits.items) (sym c.finish.ensures.hints) core)
