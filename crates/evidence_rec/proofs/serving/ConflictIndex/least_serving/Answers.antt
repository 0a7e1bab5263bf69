use Rattle.std.proofs.Common.{◌≡◌, ◌+◌, ◌<◌, ◌∙◌, true, ℕ, List, Some, length, get_or, ap, sym, subst, arith}
use Rattle.std.specs.Option.{option_map}
use Rattle.std.proofs.lemmas.List.{get_or_default, get_or_read}
use Rattle.gm_base.specs.Sets.{has}
use Rattle.evidence_rec.specs.Serving.{is_apart}
use Rattle.evidence_rec.proofs.ServingLemmas.{has-there}
use Rattle.evidence_rec.proofs.NumberedLemmas.{found-by, least-placed, within-placed, number-below}
use Rattle.evidence_rec.proofs.serving.ConflictIndex.least_serving.Goals as goal

-- each group of the set has a list
pub first_apart-requires : goal.first_apart-requires
first_apart-requires c = λ i d lt.
    let items = c.as_slice.result.now in
    let inside = subst (λ s. has s (get_or items i 0) ≡ true) c.as_slice.ensures.groups (has-there items i lt) in
    subst (λ g. g < length c.as_slice-lists.result.now) (get_or_default items i 0 d lt)
    (within-placed c.self.inside.places.items c.self.inside.lists.items c.as_slice-lists.result.now c.args.self.now (get_or items i 0) c.self.view_is c.as_slice-lists.ensures.value
    (c.requires.within (get_or items i 0) inside))

-- the number that was found has a place
pub index-requires : goal.index-requires
index-requires c =
    let found = found-by c.as_slice-lists.result.now c.self.inside.lists.items c.as_slice.result.now c.args.set.now c.args.group c.index-lists-group.result _ c.first_apart.result
    c.as_slice-lists.ensures.value c.as_slice.ensures.groups
    (within-placed c.self.inside.places.items c.self.inside.lists.items c.as_slice-lists.result.now c.args.self.now c.args.group c.self.view_is c.as_slice-lists.ensures.value
    (c.requires.within c.args.group c.requires.of_the_set))
    c.blocks-own.ensures c.index-lists-group.is c.first_apart.ensures in
    let lt : c.in_ok-number.number < length c.self.inside.places.items =
    number-below c.self.inside.places.items c.self.inside.lists.items (is_apart c.self.inside.lists.items c.args.set.now c.args.group) c.args.group c.in_ok-number.number c.self.invariant (sym found ∙ c.in_ok-number.was) in
    grind (arith, lt)

pub returns-in_err-number : goal.returns-in_err-number
returns-in_err-number c = λ earlier finds.
    c.from_residual.ensures ∙ ap (option_map (λ k. get_or c.self.inside.places.items k 0 + 1)) (sym c.in_err-number.was)
    ∙ least-placed c.self.inside.places.items c.self.inside.lists.items c.args.self.now c.args.set.now c.args.group earlier c.first_apart.result c.self.invariant c.self.view_is finds c.requires.of_the_set
    (found-by c.as_slice-lists.result.now c.self.inside.lists.items c.as_slice.result.now c.args.set.now c.args.group c.index-lists-group.result _ c.first_apart.result
    c.as_slice-lists.ensures.value c.as_slice.ensures.groups
    (within-placed c.self.inside.places.items c.self.inside.lists.items c.as_slice-lists.result.now c.args.self.now c.args.group c.self.view_is c.as_slice-lists.ensures.value
    (c.requires.within c.args.group c.requires.of_the_set))
    c.blocks-own.ensures c.index-lists-group.is c.first_apart.ensures)

-- the first of its numbers that no other group has is that of the least of all
pub returns : goal.returns
returns c = λ earlier finds.
    let found = found-by c.as_slice-lists.result.now c.self.inside.lists.items c.as_slice.result.now c.args.set.now c.args.group c.index-lists-group.result _ c.first_apart.result
    c.as_slice-lists.ensures.value c.as_slice.ensures.groups
    (within-placed c.self.inside.places.items c.self.inside.lists.items c.as_slice-lists.result.now c.args.self.now c.args.group c.self.view_is c.as_slice-lists.ensures.value
    (c.requires.within c.args.group c.requires.of_the_set))
    c.blocks-own.ensures c.index-lists-group.is c.first_apart.ensures in
    let lt : c.in_ok-number.number < length c.self.inside.places.items =
    number-below c.self.inside.places.items c.self.inside.lists.items (is_apart c.self.inside.lists.items c.args.set.now c.args.group) c.args.group c.in_ok-number.number c.self.invariant (sym found ∙ c.in_ok-number.was) in
    ap (λ n. Some (n + 1)) (c.from.ensures ∙ c.index.ensures ∙ get_or_default c.self.inside.places.items c.in_ok-number.number c.index.result.now 0 lt) ∙ ap (option_map (λ k. get_or c.self.inside.places.items k 0 + 1)) (sym c.in_ok-number.was)
    ∙ least-placed c.self.inside.places.items c.self.inside.lists.items c.args.self.now c.args.set.now c.args.group earlier c.first_apart.result c.self.invariant c.self.view_is finds c.requires.of_the_set found
