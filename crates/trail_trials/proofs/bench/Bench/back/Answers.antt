use Rattle.std.proofs.Common.{◌≡◌, arith}
use Rattle.std.specs.Prelude.{false}
use Rattle.trail_trials.proofs.bench.Bench.back.Goals as goal

-- what was parked has gone back to its lists
pub invariant_of-self : goal.invariant_of-self
invariant_of-self c = (c.back_to.ensures.kept 0 c.self.invariant.0, λ none. c.back_to.ensures.unparked (c.self.invariant.1 none))

-- nothing is parked, so that the law has it
pub invariant_of-self-else-self : goal.invariant_of-self-else-self
invariant_of-self-else-self c =
    let b = c.self.inside in
    let e = c.back_to-else-self.ensures in
    let none : b.parks ≡ false = grind arith in
    let unparked = c.self.invariant.1 none in
    (c.back_keeps.ensures b.store b.trail c.back_to-else-self.new.self c.args.level unparked c.vars-vars.ensures.trail e.entries e.vars e.done c.self.invariant.0, λ n. unparked)
