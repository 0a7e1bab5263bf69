use Rattle.gm_words.specs.Reading.{Carrying}
use Rattle.gm_words.specs.Requests.{text_of}
use Rattle.gm_io.specs.Outside.{outside}
use Rattle.gm_tool.proofs.CarryLemmas.{carrying-carries, carrying-stopped}
use Rattle.gm_tool.proofs.carry.carry_file.Goals as goal

pub list_longer-requires-clause-known : goal.list_longer-requires-clause-known
list_longer-requires-clause-known g c κs within =
    let begun = c.in-Ok.ensures.begun in
    record { accepted = begun.shown.shown.accepted; distinct = begun.shown.shown.distinct }

-- what both files and the evidence tell is carried over and listed
pub returns-in-Ok : goal.returns-in-Ok
returns-in-Ok g c =
    let a = c.args.carrying in
    let k : Carrying = record { old = a.old.now; known = a.known.now; new = a.new.now; jobs = a.jobs; evidence = text_of a.evidence } in
    let mid = outside (g.F.Files.state c.begin_longer.new.files) (g.O.Sink.got c.args.out.now) (g.O.Sink.faults c.args.out.now) in
    let new = outside (g.F.Files.state c.list_longer.new.files) (g.O.Sink.got c.list_longer.new.out) (g.O.Sink.faults c.list_longer.new.out) in
    carrying-carries k (g.F.Files.state c.args.files.now) mid new c.in-Ok.longer c.in-Ok.ensures.leaves c.in-Ok.ensures.begun c.list_longer.result c.list_longer.ensures

-- what stopped the reading ends the command
pub returns-in-Err : goal.returns-in-Err
returns-in-Err g c =
    let a = c.args.carrying in
    let k : Carrying = record { old = a.old.now; known = a.known.now; new = a.new.now; jobs = a.jobs; evidence = text_of a.evidence } in
    carrying-stopped k (g.F.Files.state c.args.files.now) (g.F.Files.state c.begin_longer.new.files) (g.O.Sink.got c.args.out.now) (g.O.Sink.faults c.args.out.now)
    c.in-Err.ending c.in-Err.ensures.stopped c.in-Err.ensures.leaves
