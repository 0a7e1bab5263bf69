use Rattle.std.proofs.Common.{arith, rules}
use Rattle.trail_book.proofs.TrailLemmas.{top_le-length, trail_room}
use Rattle.trail_book.proofs.trail.Trail.decide.Goals as goal

-- a level has an entry, and there are at most as many entries as variables
pub overflow_add-level : goal.overflow_add-level
overflow_add-level c =
    let es = c.args.self.now.entries in
    grind (arith, c.top-level.ensures, top_le-length es, trail_room c.args.self.now.vars es c.vars-vars.ensures.trail, c.vars-vars.ensures.vars, c.vars-vars.ensures.small)

-- a decision stands one level higher than what was there
pub push-requires-clause-level : goal.push-requires-clause-level
push-requires-clause-level c = search rules
