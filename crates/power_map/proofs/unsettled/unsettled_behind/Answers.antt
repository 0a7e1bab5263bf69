use Rattle.std.proofs.Common.{◌≡◌, sym, subst}
use Rattle.power_map.specs.Unsettled.{leaves, unsettled_behind}
use Rattle.power_map.proofs.UnsettledLemmas.{filter-each}
use Rattle.power_map.proofs.unsettled.unsettled_behind.Goals as goal

-- what leaves each group unsettled leaves the list
pub returns-then-settles_none : goal.returns-then-settles_none
returns-then-settles_none c =
    let groups = c.args.groups.items in
    subst (λ begins. groups ≡ unsettled_behind begins c.args.side c.args.set.now groups) (sym c.if-begins.false)
    (sym (filter-each (leaves c.args.side c.args.set.now) groups (c.settles_none.ensures c.if-settles_none.true)))
