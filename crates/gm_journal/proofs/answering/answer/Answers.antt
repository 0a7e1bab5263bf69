use Rattle.std.proofs.Common.{◌∙◌, subst, List, ℕ}
use Rattle.gm_ports.specs.DiskState.{AtEachMoment}
use Rattle.disk_frames.specs.Frames.{HoldsWithOrWithout}
use Rattle.gm_journal.proofs.answering.answer.Goals as goal

-- the frame's text is the record's
pub returns-in-Ok-clause-any_moment : goal.returns-in-Ok-clause-any_moment
returns-in-Ok-clause-any_moment g c = λ texts settled.
    subst (λ (t : List ℕ). AtEachMoment (g.D.Disk.state c.args.disk.now) (g.D.Disk.state c.append.new.disk) (HoldsWithOrWithout texts t))
    (c.from_buffer-text.ensures.text ∙ c.into_parts-kind.ensures.text) (c.append.ensures.any_moment texts settled)

pub returns-clause-any_moment : goal.returns-clause-any_moment
returns-clause-any_moment g c = λ texts settled.
    subst (λ (t : List ℕ). AtEachMoment (g.D.Disk.state c.args.disk.now) (g.D.Disk.state c.append.new.disk) (HoldsWithOrWithout texts t))
    (c.from_buffer-text.ensures.text ∙ c.into_parts-kind.ensures.text) (c.append.ensures.any_moment texts settled)

-- a failure carries the count, which rose
pub returns-clause-cause : goal.returns-clause-cause
returns-clause-cause g c = (c.in-Err.ensures.cause.failed, c.faults.ensures)
