use Rattle.std.proofs.Common.{refl, subst}
use Rattle.gm_io.specs.Writing.{CutHasCause}
use Rattle.gm_io.proofs.writing.write_outputs.Goals as goal

-- the evidence could not be written to its end
pub returns-in-Err-Failed : goal.returns-in-Err-Failed
returns-in-Err-Failed g c =
    let old = (g.F.Files.state c.args.files.now).write_faults in
    let new = (g.F.Files.state c.write_asked.new.files).write_faults in
    let rose = subst (λ why. CutHasCause why old new) c.in-Err-Failed.field-0-is c.in-Err-Failed.ensures.cause in
    (c.in-Err-Failed.ensures.front, rose, refl {a = g.O.Sink.got c.args.out.now})

-- memory was wanting for it
pub returns-in-Err-Memory : goal.returns-in-Err-Memory
returns-in-Err-Memory g c = (c.in-Err-Memory.ensures.front, refl {a = g.O.Sink.got c.args.out.now})

-- the report is written behind it
pub returns-in-Ok-write_all : goal.returns-in-Ok-write_all
returns-in-Ok-write_all g c = (c.in-Ok.ensures.whole, c.in-Ok-write_all.ensures.whole, c.in-Ok-write_all.ensures.quiet)

-- or a front part of it
pub returns-in-Err : goal.returns-in-Err
returns-in-Err g c = (c.in-Ok.ensures.whole, c.in-Err.ensures.failed, c.in-Err.ensures.cause)
