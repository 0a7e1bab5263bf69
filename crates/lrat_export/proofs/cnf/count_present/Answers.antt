use Rattle.std.proofs.Common.{ℕ, ◌+◌, Bool, cond, length, take, sym, ◌∙◌, ap, arith}
use Rattle.std.specs.List.{filter}
use Rattle.gm_base.specs.Problem.{is_present}
use Rattle.lrat_export.proofs.WritingLemmas.{count-further}
use Rattle.lrat_export.proofs.cnf.count_present.Goals as goal
use Rattle.lrat_export.proofs.cnf.count_present.Goals.{then-is_present, else-is_present}

-- one more is counted where the clause is present
pub loop-at-preserved : goal.loop-at-preserved
loop-at-preserved c =
    let before : ℕ = length (filter (is_present c.args.set.now) (take c.loop-at.at c.args.problem.now.clauses)) in
    let further = count-further c.args.set.now c.args.problem.now.clauses c.loop-at.at c.clause.result.now c.clause.ensures.same in
    let so_far = c.loop-at.invariant.0 in
    let few = c.loop-at.invariant.1 in
    elim c.if-is_present.branch [
      | then-is_present w ↦
          let more = further ∙ ap (λ (b : Bool). before + cond b 1 0) (sym w.if-is_present.ensures) in
          let count = w.count-is in (omega arith, omega arith)
      | else-is_present w ↦
          let more = further ∙ ap (λ (b : Bool). before + cond b 1 0) (sym w.if-is_present.ensures) in
          let count = w.count-is in (omega arith, omega arith)
    ]
