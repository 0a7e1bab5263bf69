use Rattle.std.proofs.Common.{Some, ◌∙◌, ap, option_map, refl, subst, sym}
use Rattle.gm_words.specs.Requests.{asked_by}
use Rattle.gm_io.specs.Outside.{outside}
use Rattle.gm_tool.specs.Words.{EndsAs, EndsWith, asked_in}
use Rattle.gm_tool.proofs.JournalLemmas.{memory-with}
use Rattle.gm_tool.proofs.RunLemmas.{bad_words}
use Rattle.gm_tool.proofs.program.obey.Goals as goal

-- each command is the one that the words ask for
pub returns-in-Ok-Some-List : goal.returns-in-Ok-Some-List
returns-in-Ok-Some-List g c =
    let w = c.in-Ok-Some-List in
    let old = outside (g.F.Files.state c.args.files.now) (g.O.Sink.got c.args.out.now) (g.O.Sink.faults c.args.out.now) in
    let new = outside (g.F.Files.state c.list_by.new.files) (g.O.Sink.got c.list_by.new.out) (g.O.Sink.faults c.list_by.new.out) in
    subst (λ asked. EndsWith g.D.Disk.state asked c.args.disk c.list_by.result.1 old new c.list_by.result.0) (sym (ap (option_map asked_by) (w.field-0-is ∙ ap Some w.field-0-0-is)) ∙ w.ensures.asked) c.list_by.ensures

pub returns-in-Ok-Some-Check : goal.returns-in-Ok-Some-Check
returns-in-Ok-Some-Check g c =
    let w = c.in-Ok-Some-Check in
    let old = outside (g.F.Files.state c.args.files.now) (g.O.Sink.got c.args.out.now) (g.O.Sink.faults c.args.out.now) in
    let new = outside (g.F.Files.state c.check_file.new.files) (g.O.Sink.got c.check_file.new.out) (g.O.Sink.faults c.check_file.new.out) in
    subst (λ asked. EndsWith g.D.Disk.state asked c.args.disk c.args.disk old new c.check_file.result) (sym (ap (option_map asked_by) (w.field-0-is ∙ ap Some w.field-0-0-is)) ∙ w.ensures.asked) (refl, c.check_file.ensures)

pub returns-in-Ok-Some-Drill : goal.returns-in-Ok-Some-Drill
returns-in-Ok-Some-Drill g c =
    let w = c.in-Ok-Some-Drill in
    let old = outside (g.F.Files.state c.args.files.now) (g.O.Sink.got c.args.out.now) (g.O.Sink.faults c.args.out.now) in
    let new = outside (g.F.Files.state c.args.files.now) (g.O.Sink.got c.drill_case.new.out) (g.O.Sink.faults c.drill_case.new.out) in
    subst (λ asked. EndsWith g.D.Disk.state asked c.args.disk c.args.disk old new c.drill_case.result) (sym (ap (option_map asked_by) (w.field-0-is ∙ ap Some w.field-0-0-is)) ∙ w.ensures.asked)
    (refl, c.drill_case.ensures (g.F.Files.state c.args.files.now))

-- an export leaves the report's sink alone
pub returns-in-Ok-Some-Export : goal.returns-in-Ok-Some-Export
returns-in-Ok-Some-Export g c =
    let w = c.in-Ok-Some-Export in
    let old = outside (g.F.Files.state c.args.files.now) (g.O.Sink.got c.args.out.now) (g.O.Sink.faults c.args.out.now) in
    let new = outside (g.F.Files.state c.export_conflict.new.files) (g.O.Sink.got c.args.out.now) (g.O.Sink.faults c.args.out.now) in
    subst (λ asked. EndsWith g.D.Disk.state asked c.args.disk c.args.disk old new c.export_conflict.result) (sym (ap (option_map asked_by) (w.field-0-is ∙ ap Some w.field-0-0-is)) ∙ w.ensures.asked)
    (refl, c.export_conflict.ensures (g.O.Sink.got c.args.out.now) (g.O.Sink.faults c.args.out.now))

pub returns-in-Ok-Some-Roles : goal.returns-in-Ok-Some-Roles
returns-in-Ok-Some-Roles g c =
    let w = c.in-Ok-Some-Roles in
    let old = outside (g.F.Files.state c.args.files.now) (g.O.Sink.got c.args.out.now) (g.O.Sink.faults c.args.out.now) in
    let new = outside (g.F.Files.state c.ask_file.new.files) (g.O.Sink.got c.ask_file.new.out) (g.O.Sink.faults c.ask_file.new.out) in
    subst (λ asked. EndsWith g.D.Disk.state asked c.args.disk c.args.disk old new c.ask_file.result) (sym (ap (option_map asked_by) (w.field-0-is ∙ ap Some w.field-0-0-is)) ∙ w.ensures.asked) (refl, c.ask_file.ensures)

pub returns-in-Ok-Some-Carry : goal.returns-in-Ok-Some-Carry
returns-in-Ok-Some-Carry g c =
    let w = c.in-Ok-Some-Carry in
    let old = outside (g.F.Files.state c.args.files.now) (g.O.Sink.got c.args.out.now) (g.O.Sink.faults c.args.out.now) in
    let new = outside (g.F.Files.state c.carry_file.new.files) (g.O.Sink.got c.carry_file.new.out) (g.O.Sink.faults c.carry_file.new.out) in
    subst (λ asked. EndsWith g.D.Disk.state asked c.args.disk c.args.disk old new c.carry_file.result) (sym (ap (option_map asked_by) (w.field-0-is ∙ ap Some w.field-0-0-is)) ∙ w.ensures.asked) (refl, c.carry_file.ensures)

-- words without a reading touch nothing
pub returns-in-Ok-None : goal.returns-in-Ok-None
returns-in-Ok-None g c =
    let old = outside (g.F.Files.state c.args.files.now) (g.O.Sink.got c.args.out.now) (g.O.Sink.faults c.args.out.now) in
    let new = outside (g.F.Files.state c.obey_none.new.files) (g.O.Sink.got c.obey_none.new.out) (g.O.Sink.faults c.obey_none.new.out) in
    subst (λ asked. EndsWith g.D.Disk.state asked c.args.disk c.args.disk old new c.obey_none.result) (sym (ap (option_map asked_by) c.in-Ok-None.field-0-is) ∙ c.in-Ok-None.ensures.asked)
    (refl, bad_words old new c.obey_none.result c.obey_none.ensures.bad_words c.obey_none.ensures.unread.untouched)

-- nor do those for which memory is wanting
pub returns-in-Err : goal.returns-in-Err
returns-in-Err g c =
    memory-with g.D.Disk.state (asked_in c.args.words.now) c.args.disk (outside (g.F.Files.state c.args.files.now) (g.O.Sink.got c.args.out.now) (g.O.Sink.faults c.args.out.now))
