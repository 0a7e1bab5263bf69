use Rattle.std.proofs.Common.{◌≡◌, arith, length}
use Rattle.propagate.proofs.KeptLemmas.{kept_decide}
use Rattle.trail_trials.proofs.bench.Bench.decide.Goals as goal

-- all values were propagated
pub invariant_of-self : goal.invariant_of-self
invariant_of-self c =
    let b = c.self.inside in
    let d = c.decide.ensures in
    let within = c.self.invariant.0.done in
    let all : b.trail.done ≡ length b.trail.entries = grind (arith, within) in
    (kept_decide b.store b.trail c.decide.new.self 0 c.args.lit d.entries d.vars d.done all c.self.invariant.0, c.self.invariant.1)
