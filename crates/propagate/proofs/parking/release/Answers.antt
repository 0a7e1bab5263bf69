use Rattle.std.proofs.Common.{◌-◌, refl}
use Rattle.clause_store.specs.Links.{link_of}
use Rattle.propagate.proofs.ReturnLemmas.{release_id, release_watched, list_tail_watched, released}
use Rattle.propagate.proofs.parking.release.Goals as goal

pub place_of-under-requires-clause-id : goal.place_of-under-requires-clause-id
place_of-under-requires-clause-id c = let r = c.requires in release_id c.args.store.now c.args.trail.now c.args.lit c.args.id c.args.left r.returning r.from_one

pub place_of-under-requires-clause-watched : goal.place_of-under-requires-clause-watched
place_of-under-requires-clause-watched c = let r = c.requires in release_watched c.args.store.now c.args.trail.now c.args.lit c.args.id c.args.left r.returning r.from_one

pub append-requires-clause-last : goal.append-requires-clause-last
append-requires-clause-last c =
    let r = c.requires in
    list_tail_watched c.args.store.now c.args.trail.now c.args.lit c.args.id c.args.left r.returning r.from_one c.place_of-under.result.1 c.place_of-under.ensures.over

pub returns-clause-returning : goal.returns-clause-returning
returns-clause-returning c =
    let r = c.requires in
    let e = c.place_of-under.ensures in
    released c.args.store.now c.args.trail.now c.args.lit c.args.id c.args.left r.returning r.from_one c.append.new.store c.place_of-under.result.1 c.place_of-under.result.0 (1 - c.place_of-under.result.0) (link_of c.next-next.result) e.place refl e.first e.second e.other e.over
    c.next-next.ensures.next c.append.ensures.appends c.append.ensures.rest
