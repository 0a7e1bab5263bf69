use Rattle.std.specs.BinaryHeap.{heap_items}
use Rattle.sat_base.proofs.WorkLemmas.{more_of}
use Rattle.sat_base.proofs.worklist.WorkList.insert.Goals as goal

-- a permutation has the same members
pub returns-clause-ok : goal.returns-clause-ok
returns-clause-ok c = rw (← c.self.view_is) (more_of (heap_items c.self.inside.numbers) (heap_items c.push.new.self) c.args.number c.in_ok-push.ensures.permutation)
