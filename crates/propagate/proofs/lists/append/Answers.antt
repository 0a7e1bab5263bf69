use Rattle.std.proofs.Common.{◌+◌, ◌*◌, ℕ, subst, sym, arith}
use Rattle.propagate.specs.Walk.{IsNode}
use Rattle.propagate.proofs.AppendLemmas.{appends_of}
use Rattle.propagate.proofs.lists.append.Goals as goal

-- the list goes on from what was its last watch
pub returns-clause-appends : goal.returns-clause-appends
returns-clause-appends c = λ node is.
    let e = c.set_after.ensures in
    let n = c.set_next.ensures in
    let t = c.set_tail.ensures in
    appends_of c.args.store.now c.set_after.new.store c.set_next.new.self c.set_tail.new.self c.args.lit c.args.id node (2 * c.args.id + c.args.place)
    e.rest (e.goes_on node (subst (λ (k : ℕ). IsNode c.args.store.now c.args.lit k node) (sym c.tail-last.ensures.tail) is))
    n.rest n.set n.others t.rest t.set t.others (omega (arith, c.requires.place))
