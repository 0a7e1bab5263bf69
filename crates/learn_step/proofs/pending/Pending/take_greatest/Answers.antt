use Rattle.std.proofs.Common.{◌≡◌, ◌/◌, ◌<◌, ◌∙◌, length, sym, arith, subst, slice_index_or, slice_set}
use Rattle.std.proofs.lemmas.List.{get_or_default}
use Rattle.sat_base.specs.Members.{In}
use Rattle.learn_step.specs.Pending.{AreSame}
use Rattle.learn_step.proofs.PendingLemmas.{without_place, lost_place, has_word}
use Rattle.learn_step.proofs.pending.Pending.take_greatest.Goals as goal

-- the greatest place is there
pub index_mut-requires : goal.index_mut-requires
index_mut-requires c =
    let old = c.self.inside.words.items in
    let place = c.in_ok-place.place in
    let has : place / 64 < length old = has_word old place (subst (In place) (sym c.self.view_is) c.in_ok-place.ensures.has) in
    omega (arith, has)

-- its bit is cleared, and no other one
pub returns : goal.returns
returns c =
    let old = c.self.inside.words.items in
    let place = c.in_ok-place.place in
    let new = c.drop_zeros.new.words.items in
    let has : place / 64 < length old = has_word old place (subst (In place) (sym c.self.view_is) c.in_ok-place.ensures.has) in
    let is : c.index_mut.result.now ≡ slice_index_or old (place / 64) 0 =
    c.index_mut.ensures.value ∙ get_or_default old (place / 64) c.index_mut.result.now 0 has in (
      c.in_ok-place.ensures,
      rw (← c.self.view_is)
          (lost_place old new place has (subst (λ w. AreSame (slice_set old (place / 64) (without_place w place)) new) is c.drop_zeros.ensures.same)),
    )
