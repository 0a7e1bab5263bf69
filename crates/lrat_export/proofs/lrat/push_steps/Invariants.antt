use Rattle.lrat_check.specs.Marks.{HasPlaces}
use Rattle.lrat_export.specs.Export.{known_of}
use Rattle.lrat_export.proofs.WalkLemmas.{StepsWalked}
use Rattle.lrat_export.proofs.lrat.push_steps.Given as goal

abbrev pub invariant-loop-at : goal.invariant-loop-at
invariant-loop-at l =
    record {
      places : HasPlaces l.source.problem.now.vars l.marks;
      walked : StepsWalked l.source.problem.now.vars l.source.set.now (known_of l.source.problem.now l.source.set.now l.source.proof.now) l.source.proof.now l.fn.out.items l.out.items l.first l.number l.at;
    }
