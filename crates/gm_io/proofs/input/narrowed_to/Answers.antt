use Rattle.gm_io.proofs.input.narrowed_to.Goals as goal

-- the narrowed problem is that of the whole one
pub returns-in-Ok : goal.returns-in-Ok
returns-in-Ok c = λ text unread r. ((c.args.problem.now, r.0, c.in-Ok.ensures), r.1)
