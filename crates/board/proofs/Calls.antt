-- The worker's part after a call.
use Rattle.std.proofs.Common.{◌≡◌, ℕ, List, [], ◌∷◌, ◌++◌, ◌∙◌, ap}
use Rattle.map_core.specs.declared.entry.Reply.{Reply}
use Rattle.map_core.specs.declared.entry.Entry.{Entry}
use Rattle.map_core.specs.Core.{new_worker}
use Rattle.map_core.specs.Own.{worker_of, worker_after}
use Rattle.map_core.proofs.Steps.{worker_from-append}

-- one entry more of its own changes it by what was used and the reply
pub worker_of-push : (mine now : List Entry) (e : Entry) (used : ℕ) (reply : Reply) → now ≡ mine ++ e ∷ [] → e.used ≡ used → e.reply ≡ reply
    → worker_of now ≡ worker_after (worker_of mine) used reply
worker_of-push mine now e used reply more used_is reply_is =
    ap worker_of more
    ∙ worker_from-append new_worker mine (e ∷ [])
    ∙ ap (λ n. worker_after (worker_of mine) n e.reply) used_is
    ∙ ap (worker_after (worker_of mine) used) reply_is
