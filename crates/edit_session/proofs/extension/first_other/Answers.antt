use Rattle.std.proofs.Common.{sym, ◌∙◌, arith}
use Rattle.edit_session.proofs.BreakLemmas.{other-missing, other-here, other-later}
use Rattle.edit_session.proofs.extension.first_other.Goals.{then-at-len-via-then-at-len, then-at-len-via-else-at-len+then-not-is_same}
use Rattle.edit_session.proofs.extension.first_other.Goals as goal

-- the clause at this place is missing, or another one
pub returns-then-at-len : goal.returns-then-at-len
returns-then-at-len c =
    let old = c.args.old.now.clauses in
    let new = c.args.new.now.clauses in
    sym
    (c.loop-at.invariant
    ∙ elim c.then-at-len.branch [
      | then-at-len-via-then-at-len w ↦ other-missing old new c.loop-at.at (omega arith) (omega (arith, w.if-at-len.true))
      | then-at-len-via-else-at-len+then-not-is_same w ↦
          other-here old new c.loop-at.at w.clause.result.now w.clause-else-at-len.result.now w.clause.ensures.same w.clause-else-at-len.ensures.same
          (sym w.is_same.ensures ∙ w.if-not-is_same.true)
    ])

pub loop-at-preserved : goal.loop-at-preserved
loop-at-preserved c =
    c.loop-at.invariant
    ∙ other-later c.args.old.now.clauses c.args.new.now.clauses c.loop-at.at c.clause.result.now c.clause-else-at-len.result.now c.clause.ensures.same c.clause-else-at-len.ensures.same
    (sym c.is_same.ensures ∙ c.if-not-is_same.false)
