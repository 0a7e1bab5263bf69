use Rattle.std.proofs.Common.{Some, refl}
use Rattle.gm_words.specs.Reading.{Drilling, drilling}
use Rattle.gm_io.specs.Outside.{outside}
use Rattle.gm_tool.proofs.RunLemmas.{drilling-case, memory-at_once}
use Rattle.gm_tool.proofs.drill.drill_case.Goals as goal

-- the case that is made is drilled
pub returns : goal.returns
returns g c = λ files.
    let a = c.args.drilling in
    let d : Drilling = record { seed = a.seed; size = a.size; jobs = a.jobs } in
    let old = outside files (g.O.Sink.got c.args.out.now) (g.O.Sink.faults c.args.out.now) in
    let new = outside files (g.O.Sink.got c.drill_problem.new.out) (g.O.Sink.faults c.drill_problem.new.out) in
    drilling-case d old new c.in-Ok.problem c.greatest_bounds-bounds.result c.drill_problem.result c.in-Ok.ensures c.greatest_bounds-bounds.ensures refl (c.drill_problem.ensures files)

-- memory is wanting for it
pub returns-in_default : goal.returns-in_default
returns-in_default g c = λ files.
    let a = c.args.drilling in
    let d : Drilling = record { seed = a.seed; size = a.size; jobs = a.jobs } in
    memory-at_once (Some (drilling d)) (outside files (g.O.Sink.got c.args.out.now) (g.O.Sink.faults c.args.out.now))
