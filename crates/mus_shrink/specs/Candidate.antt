-- Candidates on the way to a minimal conflict: unsatisfiable sets of which some groups are known to be critical.
use Rattle.std.specs.Prelude.{◌≡◌, ℕ, true, List, ◌++◌, Option, Some, None}
use Rattle.std.specs.List.{filter}
use Rattle.gm_base.specs.Sets.{IsSubset, IsGroupSet, has, without}
use Rattle.gm_base.specs.Problem.{Problem}
use Rattle.gm_base.specs.Evidence.{refutes, is_witness, each_passes}
use Rattle.evidence_rec.specs.Asking.{OracleState, IsDryAt}
use Rattle.mus_shrink.specs.declared.candidate.Candidate.{Candidate}

-- a refuted part of the set, with a witness for each of its groups that was tried, in order
pub record IsCandidate (p : Problem) (set tried : List ℕ) (candidate : Candidate) : Type 0 where
  pub is_set : IsGroupSet candidate.set
  pub within : IsSubset candidate.set set
  pub refuted : refutes p candidate.set candidate.proof ≡ true
  pub witnessed : each_passes (λ g w. is_witness p (without candidate.set g) w) (filter (has candidate.set) tried) candidate.witnesses ≡ true

-- these groups were tried too; or the purse was empty
abbrev pub TellsTried : OracleState → Candidate → List ℕ → Candidate → ℕ → Option (List ℕ) → Type 0
TellsTried o old groups new left None =
    (set tried : List ℕ) → IsCandidate o.problem set tried old → IsCandidate o.problem set (tried ++ groups) new
TellsTried o old groups new left (Some asked) = IsDryAt o asked left
