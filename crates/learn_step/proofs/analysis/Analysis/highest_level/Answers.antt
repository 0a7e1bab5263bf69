use Rattle.std.proofs.Common.{◌<◌, length, subst, sym, arith}
use Rattle.learn_step.specs.Places.{IsHighest}
use Rattle.learn_step.proofs.PlaceLemmas.{highest_at}
use Rattle.learn_step.proofs.analysis.Analysis.highest_level.Goals as goal

-- a place is below the length, which fits
pub overflow_cast-place : goal.overflow_cast-place
overflow_cast-place c =
    let below : c.in-Some.place < length c.args.trail.now.entries = c.requires c.in-Some.place c.in-Some.ensures.has in
    omega (arith, below, c.len-len.ensures)

-- levels rise along the trail
pub returns-in-Some : goal.returns-in-Some
returns-in-Some c =
    subst (IsHighest c.args.trail.now.entries c.args.self.now.places) (sym c.level_at.ensures)
    (highest_at c.args.trail.now.entries c.args.self.now.places c.in-Some.place c.in-Some.ensures c.requires)
