use Rattle.std.proofs.Common.{List, ℤ, ap, subst, sym, ◌∙◌, Some, slice_range}
use Rattle.sat_base.specs.Literals.{AreLiterals}
use Rattle.sat_base.specs.Derivation.{clause_of}
use Rattle.lrat_check.specs.State.{State, IdsAscend}
use Rattle.lrat_check.specs.Ids.{IsAt, HasNoId}
use Rattle.lrat_check.specs.declared.clauses.ClauseRecord.{ClauseRecord}
use Rattle.lrat_check.proofs.IdLemmas.{ids_ascend, known_at, known_nowhere, over_cut}
use Rattle.lrat_check.proofs.clauses.ClauseList.clause.Goals as goal

-- the record at that place cuts the clause
pub returns-in-Some-clause-clause : goal.returns-in-Some-clause-clause
returns-in-Some-clause-clause c =
    let r = c.index-record.result.now in
    let at : IsAt c.self.inside.records.items c.args.id c.in-Some.place = subst (λ (rs : List ClauseRecord). IsAt rs c.args.id c.in-Some.place) c.deref.ensures.value c.in-Some.ensures.some in
    ap (λ (ls : List ℤ). Some (slice_range ls r.start r.end)) c.deref-in-Some.ensures.value
    ∙ ap (λ (x : ClauseRecord). Some (slice_range c.self.inside.lits.items x.start x.end)) c.index-record.ensures
    ∙ sym (known_at c.self.inside.lits.items c.self.inside.records.items c.args.id c.in-Some.place r c.self.invariant.ascend at)
    ∙ ap (λ (s : State). clause_of s.known c.args.id) c.self.view_is

-- it is cut from literals over the variables
pub returns-in-Some-clause-over : goal.returns-in-Some-clause-over
returns-in-Some-clause-over c =
    let r = c.index-record.result.now in
    subst (λ (s : State). AreLiterals s.vars (slice_range c.deref-in-Some.result.now r.start r.end)) c.self.view_is
    (subst (λ (ls : List ℤ). AreLiterals c.self.inside.vars (slice_range ls r.start r.end)) (sym c.deref-in-Some.ensures.value)
    (over_cut c.self.inside.vars c.self.inside.lits.items r.start r.end c.self.invariant.over))

pub returns-in-None-clause-clause : goal.returns-in-None-clause-clause
returns-in-None-clause-clause c =
    let none : HasNoId c.self.inside.records.items c.args.id = subst (λ (rs : List ClauseRecord). HasNoId rs c.args.id) c.deref.ensures.value c.in-None.ensures.none in
    sym (known_nowhere c.self.inside.lits.items c.self.inside.records.items c.args.id none) ∙ ap (λ (s : State). clause_of s.known c.args.id) c.self.view_is

-- whatever is answered, the ids ascend as those of the records do
pub returns-in-Some-clause-ascend : goal.returns-in-Some-clause-ascend
returns-in-Some-clause-ascend c =
    subst (λ (s : State). IdsAscend s.known) c.self.view_is
    (ids_ascend c.self.inside.lits.items c.self.inside.records.items c.self.invariant.ascend)

pub returns-in-None-clause-ascend : goal.returns-in-None-clause-ascend
returns-in-None-clause-ascend c =
    subst (λ (s : State). IdsAscend s.known) c.self.view_is
    (ids_ascend c.self.inside.lits.items c.self.inside.records.items c.self.invariant.ascend)
