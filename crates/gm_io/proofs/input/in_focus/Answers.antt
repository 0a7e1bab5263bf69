use Rattle.std.proofs.Common.{sym, subst}
use Rattle.gm_io.specs.Input.{TellsInput}
use Rattle.gm_io.proofs.input.in_focus.Goals as goal

-- it is narrowed
pub returns-in-Some : goal.returns-in-Some
returns-in-Some c = λ text unread h. subst (λ focus. TellsInput focus text unread c.narrow_read.result) (sym c.in-Some.is) (c.narrow_read.ensures text unread h)

-- or it stays as it is
pub returns-in-None : goal.returns-in-None
returns-in-None c = λ text unread h. subst (λ focus. TellsInput focus text unread c.args.read) (sym c.in-None.is) h
