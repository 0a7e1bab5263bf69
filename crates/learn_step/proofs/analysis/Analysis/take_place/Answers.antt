use Rattle.std.proofs.Common.{◌<◌, length, arith}
use Rattle.learn_step.proofs.analysis.Analysis.take_place.Goals as goal

-- a place is below the length, which fits
pub overflow_cast-result : goal.overflow_cast-result
overflow_cast-result c =
    let below : c.in-Some.place < length c.args.trail.now.entries = c.requires c.in-Some.place c.in-Some.ensures.0.has in
    omega (arith, below, c.len-len.ensures)
