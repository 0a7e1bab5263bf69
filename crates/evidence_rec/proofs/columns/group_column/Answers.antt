use Rattle.std.proofs.Common.{List, Bool, subst, arith, get_or}
use Rattle.std.specs.Prelude.{All}
use Rattle.std.proofs.lemmas.List.{take_all}
use Rattle.std.proofs.lemmas.List.Elements.{All-more}
use Rattle.gm_base.specs.declared.index.Placed.{Placed}
use Rattle.gm_base.proofs.IndexLemmas.{IsTrueAt, IsTrueAt-from_one, group_true-from_places}
use Rattle.evidence_rec.specs.Columns.{assignment}
use Rattle.evidence_rec.proofs.ColumnLemmas.{is_set-and}
use Rattle.evidence_rec.proofs.columns.group_column.Goals as goal

-- a bit that is still set is set in the column of this clause too
pub loop-placed-preserved : goal.loop-placed-preserved
loop-placed-preserved c = λ k within t.
    let none : Placed = record { group = 0; at = 0 } in
    let w : List Bool = assignment c.args.columns.now k in
    let clauses = c.args.problem.now.clauses in
    let places = c.places-placed-items.result.now in
    let both = is_set-and c.loop-placed.column c.clause_column-column.result k t in
    let clause = c.clause-clause.result.now in
    All-more (IsTrueAt clauses w) places c.loop-placed.placed-index none (omega arith) (c.loop-placed.invariant k within both.0)
    (IsTrueAt-from_one clauses w (get_or places c.loop-placed.placed-index none) clause c.clause-clause.ensures.same
    (cc (c.clause_column-column.ensures k within, both.1, c.as_slice.ensures)))

pub returns : goal.returns
returns c = λ k within t.
    let w : List Bool = assignment c.args.columns.now k in
    let places = c.places-placed-items.result.now in
    group_true-from_places c.args.problem.now.clauses w c.args.group places c.places-placed-items.ensures
    (subst (All (IsTrueAt c.args.problem.now.clauses w)) (take_all c.loop-placed.placed-index places (omega arith)) (c.loop-placed.invariant k within t))
