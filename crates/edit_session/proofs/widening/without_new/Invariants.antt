use Rattle.std.proofs.Common.{◌≡◌, take}
use Rattle.edit_session.specs.Opening.{without_new}
use Rattle.edit_session.proofs.widening.without_new.Given as goal

-- those of the groups before that stay
abbrev pub invariant-loop-g : goal.invariant-loop-g
invariant-loop-g l = l.rest ≡ without_new l.old_groups l.core (take l.g-index l.g-items)
