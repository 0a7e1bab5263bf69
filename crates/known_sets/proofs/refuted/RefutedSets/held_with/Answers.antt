use Rattle.std.proofs.Common.{◌∙◌, sym, subst}
use Rattle.gm_base.specs.Sets.{with_group, IsSubset}
use Rattle.gm_base.proofs.SetLemmas.{IsSubset-from_all}
use Rattle.known_sets.proofs.MemoryLemmas.{IfSome-copied}
use Rattle.known_sets.proofs.refuted.RefutedSets.held_with.Goals as goal

-- all its groups stand in the set with the group
pub returns-clause-within : goal.returns-clause-within
returns-clause-within c =
    let more = with_group c.args.set.now c.args.group in
    let held = c.in-Some.held in
    IfSome-copied (λ entry. IsSubset entry.set more) held c.copy_of.result c.ok.result c.ok.ensures.value c.copy_of.ensures
    (subst (λ s. IsSubset s more) c.as_slice.ensures.groups (IsSubset-from_all c.as_slice.result.now more (sym c.are_within.ensures ∙ c.if-not-are_within.false)))
