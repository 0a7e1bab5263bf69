use Rattle.std.proofs.Common.{◌≡◌, ◌∙◌, None, not, ap, sym, arith}
use Rattle.cdcl_core.proofs.ResumeLemmas.{none_of, shared_more}
use Rattle.cdcl_core.proofs.resuming.level_with.Goals as goal

-- it is the decision of the next level
pub returns-then-is_none-clause-shared : goal.returns-then-is_none-clause-shared
returns-then-is_none-clause-shared c =
    let l = c.level_of-level.ensures in
    let none : c.reason.result ≡ None = none_of c.reason.result (c.is_none.ensures ∙ ap not c.if-is_none.true) in
    shared_more c.args.levels c.level_of-level.result c.args.lit c.args.trail.now.entries (omega arith) (l.there c.level_of-level.result (omega arith))
    (λ h. let low = l.first c.args.levels h in omega (arith, low, c.if-level-levels.false))
    (λ e i same. sym (c.reason.ensures e i (same ∙ sym c.var.ensures.same)) ∙ none)
