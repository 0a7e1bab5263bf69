use Rattle.std.proofs.Common.{arith, ◌≡◌, refl, sym, ◌∙◌, subst, get_or, true}
use Rattle.gm_base.specs.Sets.{IsGroupSet, has}
use Rattle.evidence_rec.proofs.ServingLemmas.{AreListed, listed-none, listed-more, listed-all, has-there}
use Rattle.evidence_rec.proofs.serving.list_under.Goals as goal

-- a group of the set has a list
pub list_at-requires : goal.list_at-requires
list_at-requires c =
    let items = c.as_slice-group-items.result.now in
    let at = c.loop-group.group-index in
    let inside = subst (λ s. has s (get_or items at 0) ≡ true) c.as_slice-group-items.ensures.groups (has-there items at c.loop-group-test.true) in
    let within = c.requires.within (get_or items at 0) inside in
    omega (arith, within, c.loop-group.invariant.groups)

pub loop-group-init : goal.loop-group-init
loop-group-init c = record { groups = refl; lists = listed-none c.args.lists.now.items c.args.number; below = λ bound lt below. below }

-- it stands there once
pub loop-group-preserved : goal.loop-group-preserved
loop-group-preserved c =
    record {
      groups = c.in_ok-list_at.ensures.groups ∙ c.loop-group.invariant.groups;
      lists =
          listed-more c.args.lists.now.items c.loop-group.lists.items c.list_at.new.lists.items c.as_slice-group-items.result.now c.loop-group.group-index c.args.number
          (subst IsGroupSet (sym c.as_slice-group-items.ensures.groups) c.as_slice-group-items.ensures.ascends) c.loop-group-test.true c.loop-group.invariant.lists
          c.in_ok-list_at.ensures.own c.in_ok-list_at.ensures.others;
      below = λ bound lt below. c.in_ok-list_at.ensures.below bound lt (c.loop-group.invariant.below bound lt below);
    }

pub returns-clause-lists : goal.returns-clause-lists
returns-clause-lists c =
    subst (λ s. AreListed c.args.lists.now.items c.loop-group.lists.items s c.args.number) c.as_slice-group-items.ensures.groups
    (listed-all c.args.lists.now.items c.loop-group.lists.items c.as_slice-group-items.result.now c.loop-group.group-index c.args.number (omega arith) c.loop-group.invariant.lists)

pub returns-in_err-list_at-clause-below : goal.returns-in_err-list_at-clause-below
returns-in_err-list_at-clause-below c = λ bound lt below. c.in_err-list_at.ensures.below bound lt (c.loop-group.invariant.below bound lt below)
