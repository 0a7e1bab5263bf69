use Rattle.std.proofs.Common.{◌≡◌, true, get_or, sym, subst, ap, map, ◌∙◌, arith}
use Rattle.gm_base.specs.Sets.{has, IsGroupSet}
use Rattle.gm_base.proofs.SetLemmas.{AscendsAbove-at}
use Rattle.sat_base.proofs.DatabaseLemmas.{get_in}
use Rattle.group_oracle.proofs.GroupLemmas.{in_has, mapped_more, mapped_all}
use Rattle.group_oracle.specs.Selectors.{on}
use Rattle.group_oracle.proofs.selectors.selectors_of.Goals as goal

pub selector-requires-clause-not_background : goal.selector-requires-clause-not_background
selector-requires-clause-not_background c =
    let items = c.as_slice-group-items.result.now in
    AscendsAbove-at 0 items c.loop-group.group-index (subst IsGroupSet (sym c.as_slice-group-items.ensures.groups) c.as_slice-group-items.ensures.ascends) c.loop-group-test.true

pub selector-requires-clause-in_range : goal.selector-requires-clause-in_range
selector-requires-clause-in_range c =
    let items = c.as_slice-group-items.result.now in
    let g = get_or items c.loop-group.group-index 0 in
    c.requires g (subst (λ s. has s g ≡ true) c.as_slice-group-items.ensures.groups (in_has items g (get_in items c.loop-group.group-index 0 c.loop-group-test.true)))

pub loop-group-preserved : goal.loop-group-preserved
loop-group-preserved c =
    mapped_more (on c.args.vars) c.as_slice-group-items.result.now c.loop-group.group-index 0 c.loop-group.lits.items c.push.new.self.items c.selector.result c.loop-group-test.true
    c.loop-group.invariant c.in_ok-push.ensures.items c.selector.ensures

pub returns : goal.returns
returns c =
    let low = c.loop-group-test.false in
    let high = c.loop-group.auto.group-index-end in
    mapped_all (on c.args.vars) c.as_slice-group-items.result.now c.loop-group.group-index c.loop-group.lits.items c.loop-group.invariant (omega arith)
    ∙ ap (map (on c.args.vars)) c.as_slice-group-items.ensures.groups
