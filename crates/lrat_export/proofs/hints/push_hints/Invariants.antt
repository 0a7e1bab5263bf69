use Rattle.sat_base.specs.Hints.{ids_of}
use Rattle.lrat_check.specs.Marks.{HasPlaces}
use Rattle.lrat_export.specs.Export.{bared, known_of}
use Rattle.lrat_export.proofs.WalkLemmas.{AreWalked}
use Rattle.lrat_export.proofs.hints.push_hints.Given as goal

abbrev pub invariant-loop-at : goal.invariant-loop-at
invariant-loop-at l =
    record {
      places : HasPlaces l.source.problem.now.vars l.marks;
      walked : AreWalked (known_of l.source.problem.now l.source.set.now l.source.proof.now) (bared l.source.problem.now.vars l.lits) (ids_of l.hints) l.marks l.fn.out.items l.out.items l.at;
    }
