use Rattle.lrat_export.proofs.EntryLemmas.{numbers-nowhere, numbers-within, numbers-goes, numbers-stays}
use Rattle.lrat_export.proofs.hints.stay_of.Goals as goal

-- no clause has the id
pub returns-in_default-clause-none : goal.returns-in_default-clause-none
returns-in_default-clause-none c =
    numbers-nowhere c.args.source.problem.now c.args.source.set.now c.args.source.proof.now c.args.source.entries.now c.requires c.args.id c.in_default.ensures.none

-- its number is 0
pub returns-then-number-eq0-clause-none : goal.returns-then-number-eq0-clause-none
returns-then-number-eq0-clause-none c =
    numbers-goes c.args.source.problem.now c.args.source.set.now c.args.source.proof.now c.args.source.entries.now c.requires c.args.id c.in-Some.place (record { id = 0; number = 0 })
    c.in-Some.ensures.some c.if-number-eq0.true

pub lits_at-lits-requires : goal.lits_at-lits-requires
lits_at-lits-requires c =
    numbers-within c.args.source.problem.now c.args.source.set.now c.args.source.proof.now c.args.source.entries.now c.requires c.args.id c.in-Some.place c.in-Some.ensures.some

pub returns-clause-some : goal.returns-clause-some
returns-clause-some c =
    numbers-stays c.args.source.problem.now c.args.source.set.now c.args.source.proof.now c.args.source.entries.now c.requires c.args.id c.in-Some.place (record { id = 0; number = 0 })
    c.lits_at-lits.result.now c.in-Some.ensures.some c.if-number-eq0.false c.lits_at-lits.ensures
