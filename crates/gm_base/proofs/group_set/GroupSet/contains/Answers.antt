use Rattle.std.proofs.Common.{◌∙◌, ap, subst}
use Rattle.std.specs.List.Sorted.{IsBinarySearchResult}
use Rattle.std.specs.Ordering.{nat_cmp}
use Rattle.gm_base.specs.Sets.{has}
use Rattle.gm_base.proofs.SetLemmas.{is_ok-searched}
use Rattle.gm_base.proofs.group_set.GroupSet.contains.Goals as goal

-- the list ascends, so halving finds the group where it is in
pub returns : goal.returns
returns c =
    c.is_ok.ensures.value
    ∙ is_ok-searched 0 c.self.inside.groups.items c.args.g c.binary_search.result c.self.invariant
    (subst (λ xs. IsBinarySearchResult (λ y. nat_cmp y c.args.g) xs c.binary_search.result) c.deref.ensures.value c.binary_search.ensures.position)
    ∙ ap (λ s. has s c.args.g) c.self.view_is
