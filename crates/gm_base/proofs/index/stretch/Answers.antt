use Rattle.std.proofs.Common.{◌+◌, ◌-◌, get_or, arith, rules}
use Rattle.gm_base.proofs.IndexLemmas.{Begins-order, stretch-each, stretch-inside}
use Rattle.gm_base.proofs.index.stretch.Goals as goal

-- the next group's stretch does not begin before this one's
pub slice_bounds-result-count-2 : goal.slice_bounds-result-count-2
slice_bounds-result-count-2 c =
    let here = c.requires.each c.args.group 0 (omega arith) in
    let next = c.requires.each (c.args.group + 1) 0 (omega arith) in
    Begins-order c.args.index.now c.args.group (get_or c.args.starts.now c.args.group 0) (get_or c.args.starts.now (c.args.group + 1) 0) here next

-- nor behind the end
pub slice_bounds-result-start-2 : goal.slice_bounds-result-start-2
slice_bounds-result-start-2 c =
    let here = c.requires.each c.args.group 0 (omega arith) in
    let next = c.requires.each (c.args.group + 1) 0 (omega arith) in
    let order = Begins-order c.args.index.now c.args.group (get_or c.args.starts.now c.args.group 0) (get_or c.args.starts.now (c.args.group + 1) 0) here next in
    let within = next.within in
    search rules

-- what is of the group stands between both
pub returns-clause-each : goal.returns-clause-each
returns-clause-each c =
    let here = c.requires.each c.args.group 0 (omega arith) in
    let next = c.requires.each (c.args.group + 1) 0 (omega arith) in
    stretch-each c.args.index.now c.args.group (get_or c.args.starts.now c.args.group 0) (get_or c.args.starts.now (c.args.group + 1) 0) here next

-- and what stands there is of the index
pub returns-clause-inside : goal.returns-clause-inside
returns-clause-inside c =
    let from = get_or c.args.starts.now c.args.group 0 in
    let to = get_or c.args.starts.now (c.args.group + 1) 0 in
    stretch-inside c.args.index.now from (to - from)
