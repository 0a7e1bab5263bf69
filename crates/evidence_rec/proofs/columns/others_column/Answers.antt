use Rattle.std.proofs.Common.{◌≡◌, ◌≢◌, ◌+◌, ◌∙◌, ℕ, List, Bool, true, sym, subst, ap, arith}
use Rattle.std.specs.Prelude.{All, slice_index_or}
use Rattle.std.proofs.lemmas.List.{take_all}
use Rattle.std.proofs.lemmas.List.Elements.{All-more}
use Rattle.gm_base.specs.Index.{group_true}
use Rattle.evidence_rec.specs.Columns.{assignment}
use Rattle.evidence_rec.proofs.ColumnLemmas.{is_set-and, satisfies-others}
use Rattle.evidence_rec.proofs.columns.others_column.Goals as goal

-- one group more, but for the assignment whose own it is
pub loop-at-preserved : goal.loop-at-preserved
loop-at-preserved c = λ k within t.
    let groups = c.args.groups.now in
    let at = c.loop-at.at in
    let holds = group_true c.args.problem.now.clauses (assignment c.args.columns.now k) in
    let own : ℕ = slice_index_or groups (c.args.from + k) 0 in
    let both = is_set-and c.loop-at.column c.with_own-column.result k t in
    let before = c.loop-at.invariant k within both.0 in (
      before.0,
      All-more (λ g. g ≢ own → holds g ≡ true) groups at 0 (omega arith) before.1
          (λ other.
          c.group_column.ensures k within
          (sym (c.with_own-column.ensures k within (λ same. other (ap (λ i. slice_index_or groups i 0) (sym same)))) ∙ both.1)),
    )

pub returns : goal.returns
returns c = λ k within t.
    let groups = c.args.groups.now in
    let w : List Bool = assignment c.args.columns.now k in
    let own : ℕ = slice_index_or groups (c.args.from + k) 0 in
    let all = c.loop-at.invariant k within t in
    satisfies-others c.args.problem.now groups own w all.0
    (subst (All (λ g. g ≢ own → group_true c.args.problem.now.clauses w g ≡ true)) (take_all c.loop-at.at groups (omega arith)) all.1)
