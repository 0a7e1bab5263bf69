use Rattle.std.proofs.Common.{refl}
use Rattle.gm_words.specs.Reading.{Checking}
use Rattle.gm_io.specs.Outside.{outside}
use Rattle.gm_tool.proofs.RunLemmas.{checking-stopped, checking-reports}
use Rattle.gm_tool.proofs.check.check_file.Goals as goal

-- the report of what is shown of its problem is written
pub returns-in-Ok : goal.returns-in-Ok
returns-in-Ok g c =
    let k : Checking = record { file = c.args.checking.file.now; evidence = c.args.checking.evidence.now; focus = c.args.checking.focus } in
    let files = g.F.Files.state c.begin.new.files in
    let mid = outside files (g.O.Sink.got c.args.out.now) (g.O.Sink.faults c.args.out.now) in
    let new = outside files (g.O.Sink.got c.write_shown.new.out) (g.O.Sink.faults c.write_shown.new.out) in
    checking-reports k (g.F.Files.state c.args.files.now) mid new c.in-Ok.field-0 c.in-Ok.ensures.leaves c.in-Ok.ensures.begun refl c.write_shown.result
    (c.write_shown.ensures files)

-- what stopped the reading ends the command
pub returns-in-Err : goal.returns-in-Err
returns-in-Err g c =
    let k : Checking = record { file = c.args.checking.file.now; evidence = c.args.checking.evidence.now; focus = c.args.checking.focus } in
    checking-stopped k (g.F.Files.state c.args.files.now) (g.F.Files.state c.begin.new.files) (g.O.Sink.got c.args.out.now) (g.O.Sink.faults c.args.out.now)
    c.in-Err.ending c.in-Err.ensures.stopped c.in-Err.ensures.leaves
