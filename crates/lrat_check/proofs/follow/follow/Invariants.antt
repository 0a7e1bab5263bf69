use Rattle.sat_base.specs.Hints.{ids_of}
use Rattle.lrat_check.specs.Marks.{HasPlaces}
use Rattle.lrat_check.proofs.Following.{IsFollowed}
use Rattle.lrat_check.proofs.follow.follow.Given as goal

abbrev pub invariant-loop-i : goal.invariant-loop-i
invariant-loop-i l =
    record { places : HasPlaces l.clauses.vars l.marks; followed : IsFollowed l.clauses.known l.lits (ids_of l.hints) l.marks l.i }
