use Rattle.std.proofs.Common.{List, ℕ, ap}
use Rattle.mss_grow.proofs.addition.put_in.Goals as goal

-- the set has the group, and the rest stays
pub returns : goal.returns
returns c = ap (λ (more : List ℕ). record c.args.growth.now { set = more }) c.in_ok-growth.ensures
