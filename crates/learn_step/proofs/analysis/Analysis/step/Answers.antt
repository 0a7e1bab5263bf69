use Rattle.std.proofs.Common.{◌∙◌, sym, rules}
use Rattle.learn_step.proofs.AnalysisLemmas.{may_bring_in}
use Rattle.learn_step.proofs.analysis.Analysis.step.Goals as goal

-- what forced the value is a clause of the store, whose literals have values
pub bring_in-requires-clause-id : goal.bring_in-requires-clause-id
bring_in-requires-clause-id c =
    (may_bring_in c.args.store.now.clauses c.args.trail.now.entries c.args.place c.entry-entry.result c.in-Some.id c.requires.reasoned c.requires.in_range c.entry-entry.ensures
    (sym c.hint.ensures ∙ c.in-Some.is)).is_id

pub bring_in-requires-clause-values : goal.bring_in-requires-clause-values
bring_in-requires-clause-values c =
    (may_bring_in c.args.store.now.clauses c.args.trail.now.entries c.args.place c.entry-entry.result c.in-Some.id c.requires.reasoned c.requires.in_range c.entry-entry.ensures
    (sym c.hint.ensures ∙ c.in-Some.is)).values

-- the literal that is false stays
pub returns-then-stays : goal.returns-then-stays
returns-then-stays c = search rules
