use Rattle.std.proofs.Common.{refl}
use Rattle.gm_io.specs.Outside.{outside}
use Rattle.gm_tool.specs.JournalSteps.{with_journal}
use Rattle.gm_tool.proofs.JournalLemmas.{journaled-keeps, journaled-stopped}
use Rattle.gm_tool.proofs.journal.list_journaled.Goals as goal

-- the problem is listed from the journal
pub returns-in-Ok : goal.returns-in-Ok
returns-in-Ok g c =
    let name = c.args.name.now in
    let l = with_journal c.args.listing name in
    let mid = outside (g.F.Files.state c.read_named.new.files) (g.O.Sink.got c.args.out.now) (g.O.Sink.faults c.args.out.now) in
    let new = outside (g.F.Files.state c.list_into.new.files) (g.O.Sink.got c.list_into.new.out) (g.O.Sink.faults c.list_into.new.out) in
    journaled-keeps g.D.Disk.state l name c.args.disk c.list_into.result.1 (g.F.Files.state c.args.files.now) mid new c.in-Ok.problem c.in-Ok.ensures.leaves c.in-Ok.ensures.quiet
    c.in-Ok.ensures.read c.list_into.result.0 c.list_into.ensures

-- what stopped the reading ends the command
pub returns-in-Err : goal.returns-in-Err
returns-in-Err g c =
    let name = c.args.name.now in
    journaled-stopped g.D.Disk.state (with_journal c.args.listing name) name c.args.disk c.args.disk (g.F.Files.state c.args.files.now) (g.F.Files.state c.read_named.new.files)
    (g.O.Sink.got c.args.out.now) (g.O.Sink.faults c.args.out.now) c.in-Err.ensures.leaves c.in-Err.ending c.in-Err.ensures.stopped refl
