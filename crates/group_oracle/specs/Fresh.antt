-- A new oracle.
use Rattle.std.specs.Prelude.{◌≡◌, None}
use Rattle.gm_base.specs.Problem.{Problem}
use Rattle.lrat_steps.specs.Log.{learned_count}
use Rattle.evidence_rec.specs.Asking.{OracleState, IsHonestOver}

-- it was asked nothing, and has learnt nothing
pub record IsFresh (p : Problem) (o : OracleState) : Type 0 where
  pub problem : o.problem ≡ p
  pub honest : IsHonestOver p o.log
  pub learned : learned_count o.log ≡ 0
  pub refuted : o.refuted ≡ None
  pub asks : o.asks ≡ 0
