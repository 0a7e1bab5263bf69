use Rattle.std.proofs.Common.{◌+◌, take, drop, get_or, subst, sym, arith, rules}
use Rattle.std.proofs.lemmas.List.{take_more, drop_more}
use Rattle.mus_shrink.proofs.OrderLemmas.{IsMerging, merging-last, merging-other}
use Rattle.mus_shrink.proofs.order.in_order.Goals as goal
use Rattle.mus_shrink.proofs.order.in_order.Goals.{then-contains+in_ok-move_next, else-contains+in_ok-move_next-2}

-- the next group has its witness
pub loop-g-preserved : goal.loop-g-preserved
loop-g-preserved c = λ test others lasts.
    let items = c.as_slice-g-items.result.now in
    let at = c.loop-g.g-index in
    let g = get_or items at 0 in
    let ahead = subst (λ gs. IsMerging test c.args.last.now (take at items) gs c.loop-g.all.items c.loop-g.others.rest.items c.loop-g.lasts.rest.items)
    (drop_more items at 0 (omega arith)) (c.loop-g.invariant test others lasts) in
    subst (λ gs. IsMerging test c.args.last.now gs (drop (at + 1) items) c.if-contains.all.items c.if-contains.others.rest.items c.if-contains.lasts.rest.items)
    (sym (take_more items at 0 (omega arith)))
    (elim c.if-contains.branch [
      | then-contains+in_ok-move_next w ↦ rw (w.all-is, w.others-is, w.lasts-is)
          (merging-last test c.args.last.now (take at items) (drop (at + 1) items) g c.loop-g.all.items c.loop-g.others.rest.items c.loop-g.lasts.rest.items
          w.move_next.new.to.items w.move_next.new.from.rest.items (search rules) ahead w.in_ok-move_next.ensures)
      | else-contains+in_ok-move_next-2 w ↦ rw (w.all-is, w.others-is, w.lasts-is)
          (merging-other test c.args.last.now (take at items) (drop (at + 1) items) g c.loop-g.all.items c.loop-g.others.rest.items c.loop-g.lasts.rest.items
          w.move_next-else-contains.new.to.items w.move_next-else-contains.new.from.rest.items (search rules) ahead w.in_ok-move_next-2.ensures)
    ])
