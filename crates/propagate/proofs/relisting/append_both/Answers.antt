use Rattle.std.proofs.Common.{◌+◌, ◌*◌}
use Rattle.propagate.proofs.RebuildLemmas.{tail_watched, first_literal, relisted_first_watch, second_literal_next, relisted_both}
use Rattle.propagate.proofs.relisting.append_both.Goals as goal

pub append-requires-clause-lit : goal.append-requires-clause-lit
append-requires-clause-lit c =
    first_literal c.args.store.now c.args.trail.now c.args.id c.args.first c.args.second c.requires.lists c.requires.id c.requires.live c.requires.watched c.vars-vars.ensures.over

pub append-requires-clause-last : goal.append-requires-clause-last
append-requires-clause-last c =
    tail_watched c.args.store.now c.args.trail.now (2 * c.args.id) c.args.first c.requires.lists
    (first_literal c.args.store.now c.args.trail.now c.args.id c.args.first c.args.second c.requires.lists c.requires.id c.requires.live c.requires.watched
    c.vars-vars.ensures.over)

pub append-requires-2-clause-lit : goal.append-requires-2-clause-lit
append-requires-2-clause-lit c =
    second_literal_next c.args.store.now c.args.trail.now c.args.id c.args.first c.args.second c.requires.lists c.requires.id c.requires.live c.requires.watched
    c.vars-vars.ensures.over c.append.new.store c.append.ensures.appends c.append.ensures.rest

pub append-requires-2-clause-last : goal.append-requires-2-clause-last
append-requires-2-clause-last c =
    tail_watched c.append.new.store c.args.trail.now (2 * c.args.id + 1) c.args.second
    (relisted_first_watch c.args.store.now c.args.trail.now c.args.id c.args.first c.args.second c.requires.lists c.requires.id c.requires.live c.requires.watched c.vars-vars.ensures.over c.append.new.store c.append.ensures.appends
    c.append.ensures.rest)
    (second_literal_next c.args.store.now c.args.trail.now c.args.id c.args.first c.args.second c.requires.lists c.requires.id c.requires.live c.requires.watched c.vars-vars.ensures.over c.append.new.store c.append.ensures.appends
    c.append.ensures.rest)

-- both come to their lists
pub returns-clause-lists : goal.returns-clause-lists
returns-clause-lists c =
    relisted_both c.args.store.now c.args.trail.now c.args.id c.args.first c.args.second c.requires.lists c.requires.id c.requires.live c.requires.watched
    c.vars-vars.ensures.over c.append.new.store c.append.ensures.appends c.append.ensures.rest c.append-2.new.store c.append-2.ensures.appends c.append-2.ensures.rest
