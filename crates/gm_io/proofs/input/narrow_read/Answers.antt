use Rattle.std.proofs.Common.{None, subst}
use Rattle.gm_io.specs.Input.{TellsInput}
use Rattle.gm_io.proofs.input.narrow_read.Goals as goal

-- what was read is a problem
pub returns-in-Problem : goal.returns-in-Problem
returns-in-Problem c = λ text unread h. c.narrowed_to.ensures text unread (subst (λ read. TellsInput None text unread read) c.in-Problem.is h)
