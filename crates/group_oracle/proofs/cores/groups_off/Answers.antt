use Rattle.std.proofs.Common.{◌<◌, ℕ, List, sym, subst}
use Rattle.std.specs.Prelude.{All}
use Rattle.std.specs.List.Sorted.{IsNonDecreasingBy}
use Rattle.std.proofs.lemmas.List.Sorted.{IsNonDecreasingBy-from_sort, All-permutation}
use Rattle.std.proofs.lemmas.Result.{IfOk-weaker}
use Rattle.group_oracle.specs.Selectors.{AreGroupsOf, IsSetOf}
use Rattle.group_oracle.proofs.GroupLemmas.{numbers_some, groups_from}
use Rattle.group_oracle.proofs.cores.groups_off.Goals as goal

pub set_of-requires-clause-ascends : goal.set_of-requires-clause-ascends
set_of-requires-clause-ascends c =
    subst (IsNonDecreasingBy (λ (g : ℕ). g)) (sym c.as_slice.ensures.value)
    (IsNonDecreasingBy-from_sort (λ (g : ℕ). g) c.sort_unstable.new.self.items c.sort_unstable.ensures.sorted)

pub set_of-requires-clause-not_background : goal.set_of-requires-clause-not_background
set_of-requires-clause-not_background c =
    subst (All (λ (g : ℕ). 0 < g)) (sym c.as_slice.ensures.value)
    (All-permutation (λ (g : ℕ). 0 < g) c.in_ok-groups.groups.items c.sort_unstable.new.self.items c.sort_unstable.ensures.permutation
    (numbers_some c.args.vars c.args.lits.now c.in_ok-groups.groups.items c.requires c.in_ok-groups.ensures))

-- sorting loses no group
pub returns : goal.returns
returns c =
    IfOk-weaker c.set_of.result (λ (set : List ℕ). IsSetOf c.as_slice.result.now set) (λ (set : List ℕ). AreGroupsOf c.args.vars c.args.lits.now set)
    (λ set h.
    groups_from c.args.vars c.args.lits.now c.in_ok-groups.groups.items c.sort_unstable.new.self.items set c.requires c.in_ok-groups.ensures c.sort_unstable.ensures.permutation
    (subst (λ (gs : List ℕ). IsSetOf gs set) c.as_slice.ensures.value h))
    c.set_of.ensures
