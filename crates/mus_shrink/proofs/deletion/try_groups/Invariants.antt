use Rattle.std.proofs.Common.{ℕ, ◌≤◌, ◌+◌, ◌++◌, List, take}
use Rattle.evidence_rec.specs.Asking.{IsSpent, IsHonestOver}
use Rattle.mus_shrink.specs.Candidate.{IsCandidate}
use Rattle.mus_shrink.proofs.deletion.try_groups.Given as goal

-- the groups before were tried
abbrev pub invariant-loop-g : goal.invariant-loop-g
invariant-loop-g g l =
    let first = g.O.Oracle.state l.fn.oracle in
    let now = g.O.Oracle.state l.oracle in
    record {
      tried : (set tried : List ℕ) → IsCandidate first.problem set tried l.fn.candidate → IsCandidate first.problem set (tried ++ take l.g-index l.groups) l.candidate;
      asks : now.asks ≤ first.asks + l.g-index;
      honest : IsHonestOver first.problem first.log → IsHonestOver now.problem now.log;
      spent : IsSpent first now l.fn.purse.left l.purse.left;
    }
