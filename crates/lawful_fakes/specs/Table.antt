-- What an oracle with a table knows.
use Rattle.std.specs.Prelude.{◌≡◌, ℕ, true, List, Option, None, IfSome}
use Rattle.std.specs.List.{AllByRecursion}
use Rattle.sat_base.specs.Derivation.{Derivation}
use Rattle.gm_base.specs.Sets.{IsGroupSet, IsSubset}
use Rattle.gm_base.specs.Problem.{Problem}
use Rattle.gm_base.specs.Evidence.{refutes}
use Rattle.lrat_steps.specs.Log.{LogStep}
use Rattle.evidence_rec.specs.declared.record.Record.{Record}
use Rattle.evidence_rec.specs.Records.{IsAcceptedAlone}
use Rattle.evidence_rec.specs.Asking.{OracleState, IsHonestOver, asked_once}
use Rattle.lawful_fakes.specs.declared.table_oracle.Refuted.{Refuted}

-- the part of the set is refuted
pub record IsRefutation (p : Problem) (set part : List ℕ) (proof : Derivation) : Type 0 where
  pub is_set : IsGroupSet part
  pub within : IsSubset part set
  pub refuted : refutes p part proof ≡ true

-- accepted conflicts, an honest log, and a refutation of the set of the last answer
pub record KnowsTable (p : Problem) (conflicts : List Record) (log : List LogStep) (last : Option Refuted) : Type 0 where
  pub accepted : AllByRecursion (IsAcceptedAlone p) conflicts
  pub honest : IsHonestOver p log
  pub refuted : IfSome last (λ (r : Refuted). refutes p r.set r.proof ≡ true)

-- one question more, which has no answer
abbrev pub unanswered : OracleState → OracleState
unanswered o = record o { refuted = None; asks = asked_once o.asks }
