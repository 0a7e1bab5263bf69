use Rattle.std.proofs.Common.{refl, subst}
use Rattle.gm_words.specs.Reading.{Asking}
use Rattle.gm_io.specs.Outside.{outside}
use Rattle.gm_tool.specs.Steps.{Asks}
use Rattle.gm_tool.proofs.RolesLemmas.{asking-stopped, asking-asks}
use Rattle.gm_tool.proofs.roles.ask_file.Goals as goal

-- the roles of its problem's groups are told
pub returns-in-Ok : goal.returns-in-Ok
returns-in-Ok g c =
    let a : Asking = record { file = c.args.asking.file.now; jobs = c.args.asking.jobs; focus = c.args.asking.focus } in
    let files = g.F.Files.state c.begin.new.files in
    let mid = outside files (g.O.Sink.got c.args.out.now) (g.O.Sink.faults c.args.out.now) in
    let new = outside files (g.O.Sink.got c.ask_problem.new.out) (g.O.Sink.faults c.ask_problem.new.out) in
    asking-asks a (g.F.Files.state c.args.files.now) mid new c.in-Ok.field-0 c.in-Ok.ensures.leaves c.in-Ok.ensures.begun refl c.ask_problem.result
    (subst (λ b. Asks c.in-Ok.field-0.problem b mid new c.ask_problem.result) c.greatest_bounds-bounds.ensures (c.ask_problem.ensures files))

-- what stopped the reading ends the command
pub returns : goal.returns
returns g c =
    let a : Asking = record { file = c.args.asking.file.now; jobs = c.args.asking.jobs; focus = c.args.asking.focus } in
    asking-stopped a (g.F.Files.state c.args.files.now) (g.F.Files.state c.begin.new.files) (g.O.Sink.got c.args.out.now) (g.O.Sink.faults c.args.out.now)
    c.in-Err.ending c.in-Err.ensures.stopped c.in-Err.ensures.leaves
