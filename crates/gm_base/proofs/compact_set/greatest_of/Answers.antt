use Rattle.std.proofs.Common.{◌≡◌, ◌-◌, List, ℕ, length, ◌∙◌, ap, sym}
use Rattle.std.specs.Prelude.{Some, slice_get}
use Rattle.std.specs.Option.{option_copied}
use Rattle.gm_base.proofs.SetLemmas.{IsSubset-up_to_last}
use Rattle.gm_base.proofs.compact_set.greatest_of.Goals as goal

-- the last group of an ascending set is its greatest one
pub returns-in-Some-clause-within : goal.returns-in-Some-clause-within
returns-in-Some-clause-within c =
    let there : slice_get c.args.set.now (length c.args.set.now - 1) ≡ Some c.in-Some.greatest.now =
    ap (λ (s : List ℕ). slice_get s (length s - 1)) (sym c.as_slice.ensures.groups) ∙ sym c.last.ensures.value ∙ ap option_copied c.in-Some.is in
    IsSubset-up_to_last c.args.set.now c.in-Some.greatest.now c.as_slice.ensures.ascends there
