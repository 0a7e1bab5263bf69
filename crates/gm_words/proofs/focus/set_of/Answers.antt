use Rattle.std.proofs.Common.{◌≡◌, ◌∙◌, List, ℕ, eqb, sym, subst}
use Rattle.std.specs.List.{dedup}
use Rattle.std.proofs.lemmas.List.Filters.{dedup_is}
use Rattle.std.proofs.lemmas.Result.{IfOk-weaker}
use Rattle.gm_base.specs.Sets.{IsGroupSet}
use Rattle.gm_words.specs.Reading.{set_of}
use Rattle.gm_words.proofs.FocusLemmas.{IsGroupSet-sorted, set_of-sorted}
use Rattle.gm_words.proofs.focus.set_of.Goals as goal

-- what is sorted and has no repeats is a set
pub ascending-requires : goal.ascending-requires
ascending-requires c =
    let sorted : List ℕ = c.sort_unstable.new.self.items in
    let is : c.as_slice.result.now ≡ dedup eqb sorted = c.as_slice.ensures.value ∙ dedup_is _ _ _ c.dedup.ensures.filtered in
    subst IsGroupSet (sym is) (IsGroupSet-sorted c.args.numbers.items sorted c.requires c.sort_unstable.ensures.permutation c.sort_unstable.ensures.sorted)

-- and has all numbers
pub returns : goal.returns
returns c =
    let sorted : List ℕ = c.sort_unstable.new.self.items in
    let is : c.as_slice.result.now ≡ dedup eqb sorted = c.as_slice.ensures.value ∙ dedup_is _ _ _ c.dedup.ensures.filtered in
    IfOk-weaker c.ascending.result (λ (set : List ℕ). set ≡ c.as_slice.result.now) (λ (set : List ℕ). set ≡ set_of c.args.numbers.items)
    (λ set same. same ∙ is ∙ set_of-sorted c.args.numbers.items sorted c.requires c.sort_unstable.ensures.permutation c.sort_unstable.ensures.sorted)
    c.ascending.ensures
