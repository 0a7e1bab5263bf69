use Rattle.std.proofs.Common.{rules}
use Rattle.turn_lock.proofs.Steps.{may_draw}
use Rattle.turn_lock.proofs.turn.draw.Goals as goal

pub fetch_add-requires : goal.fetch_add-requires
fetch_add-requires g c = (search rules, search rules, may_draw _ _ _ _ _ _ _ _ c.requires.idle)
