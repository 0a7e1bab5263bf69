-- What a checker keeps between its calls.
use Rattle.std.specs.Prelude.{[]}
use Rattle.lrat_check.specs.Marks.{HasPlaces, AreMarked}
use Rattle.lrat_check.specs.declared.checker.Checker.TheInside.{Inside}

-- no literal is marked, and each one over the variables has a place
pub record IsReady (a : Inside) : Type 0 where
  pub places : HasPlaces a.clauses.vars a.marks
  pub clear : AreMarked a.marks []
