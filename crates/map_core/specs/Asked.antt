-- What a take decides before it is written down.
use Rattle.std.specs.Prelude.{◌≡◌, ℕ, ◌+◌, ◌<◌, ◌^◌, Bool, true, false, List, Option, MatchOption}
use Rattle.gm_base.specs.Explored.{Found}
use Rattle.sat_base.specs.Derivation.{Derivation}
use Rattle.evidence_rec.specs.Seeding.{EngineState, shows_all_explored}
use Rattle.map_core.specs.declared.turn.Turn.{Turn}
use Rattle.map_core.specs.declared.ask.TakeAnswer.{TakeAnswer}
use Rattle.map_core.specs.Core.{Takes}
use Rattle.map_core.specs.Replies.{take_reply}

-- a part of a worker that has given its purse back, within a budget
pub record IsSettled (t : Turn) : Type 0 where
  pub alive : t.worker.ended ≡ false
  pub empty : t.worker.purse ≡ 0
  pub fits : t.common.available + t.common.spent < 2 ^ 64

-- a proof that each set is explored is given exactly where exhausted is newly marked
abbrev pub GivesProof : ℕ → List Found → Turn → Turn → Option Derivation → Type 0
GivesProof groups found t u proof =
    MatchOption proof (u.common.exhausted ≡ t.common.exhausted) (λ d. (u.common.exhausted ≡ true) × (shows_all_explored groups found d ≡ true))

-- the answer is one of the definition, and is kept as it is given
pub record IsAnswered (tops : Bool) (engine : EngineState) (told full : Bool) (number : ℕ) (t : Turn) (answer : TakeAnswer) : Type 0 where
  pub takes : Takes tops engine.groups engine.blocks told full number t answer.engine answer.kept answer.turn
  pub reply : take_reply answer.reply ≡ answer.kept
  pub proof : GivesProof engine.groups engine.blocks t answer.turn answer.proof
