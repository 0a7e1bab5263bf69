use Rattle.std.proofs.Common.{◌∙◌, sym}
use Rattle.propagate.proofs.RebuildLemmas.{relisted_skip, relisted_dropped}
use Rattle.propagate.proofs.relisting.relist.Goals as goal

-- it is in no list
pub returns-in_default-clause-lists : goal.returns-in_default-clause-lists
returns-in_default-clause-lists c = relisted_skip c.args.store.now c.args.trail.now c.args.id c.requires.lists (sym c.watched.ensures ∙ c.in_default.is)

-- and comes to none
pub returns-else-is_live-clause-lists : goal.returns-else-is_live-clause-lists
returns-else-is_live-clause-lists c =
    relisted_dropped c.args.store.now c.set_watched.new.self c.args.trail.now c.args.id c.requires.lists (sym c.is_live.ensures ∙ c.if-is_live.false) c.set_watched.ensures.set c.set_watched.ensures.others
    c.set_watched.ensures.rest
