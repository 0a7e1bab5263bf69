use Rattle.std.proofs.Common.{[], ◌∷◌, ◌++◌, sym, ◌∙◌, ap₂, arith}
use Rattle.focus_roles.proofs.MarkLemmas.{role-marked, roles-more}
use Rattle.focus_roles.proofs.roles.roles_by.Goals as goal

-- the role of one group more
pub loop-at-preserved : goal.loop-at-preserved
loop-at-preserved c = λ sets marked.
    c.in_ok-push.ensures.items
    ∙ ap₂ (λ roles role. roles ++ role ∷ []) (c.loop-at.invariant sets marked)
    (c.role_by.ensures
    ∙ role-marked c.args.groups sets c.args.marks.now c.loop-at.at c.index.result.now c.index-in-loop-at.result.now marked (omega arith) c.index.ensures c.index-in-loop-at.ensures)
    ∙ sym (roles-more sets c.loop-at.at)
