use Rattle.gm_words.specs.Reading.{Exporting}
use Rattle.gm_tool.proofs.ExportLemmas.{exporting-stopped, exporting-exports}
use Rattle.gm_tool.proofs.export.export_conflict.Goals as goal

-- the conflict is exported, of those that are shown
pub returns-in-Ok : goal.returns-in-Ok
returns-in-Ok g c = λ got faults.
    let a = c.args.exporting in
    let x : Exporting = record { file = a.file.now; evidence = a.evidence.now; number = a.number; cnf = a.cnf.now; lrat = a.lrat.now } in
    exporting-exports x (g.F.Files.state c.args.files.now) (g.F.Files.state c.begin.new.files) (g.F.Files.state c.export_of.new.files) got faults c.in-Ok.field-0
    c.in-Ok.ensures.leaves c.in-Ok.ensures.begun c.export_of.result c.export_of.ensures

-- what stopped the reading ends the command
pub returns-in-Err : goal.returns-in-Err
returns-in-Err g c = λ got faults.
    let a = c.args.exporting in
    let x : Exporting = record { file = a.file.now; evidence = a.evidence.now; number = a.number; cnf = a.cnf.now; lrat = a.lrat.now } in
    exporting-stopped x (g.F.Files.state c.args.files.now) (g.F.Files.state c.begin.new.files) got faults c.in-Err.ending c.in-Err.ensures.stopped c.in-Err.ensures.leaves
