use Rattle.std.proofs.Common.{◌≡◌, ◌-◌, ◌/◌, ◌%◌, ◌==◌, ◌∙◌, ap, sym, arith, subst, true, slice_index_or}
use Rattle.std.specs.Int.{bit_at}
use Rattle.std.proofs.lemmas.Bool.{true≢false}
use Rattle.std.proofs.lemmas.List.{get_or_default}
use Rattle.std.proofs.lemmas.Nat.Bits.{shr_and_one}
use Rattle.sat_base.specs.Members.{In}
use Rattle.learn_step.specs.Pending.{is_pending}
use Rattle.learn_step.proofs.PendingLemmas.{In-pending, has_word}
use Rattle.learn_step.proofs.pending.Pending.has.Goals as goal

-- the bit of the place is set
pub returns-then-at-len-clause-yes : goal.returns-then-at-len-clause-yes
returns-then-at-len-clause-yes c set_bit =
    let words = c.self.inside.words.items in
    let place = c.args.place in
    let is : slice_index_or words (place / 64) 0 ≡ c.index.result.now = get_or_default words (place / 64) 0 c.index.result.now (omega arith) ∙ sym c.index.ensures in
    let on : is_pending words place ≡ true =
    ap (λ w. bit_at w (63 - place % 64) == 1) is ∙ ap (λ b. b == 1) (sym (shr_and_one c.index.result.now (63 - place % 64))) ∙ set_bit in
    subst (In place) c.self.view_is ((In-pending words place).1 on)

-- it is not
pub returns-then-at-len-clause-no : goal.returns-then-at-len-clause-no
returns-then-at-len-clause-no c clear there =
    let words = c.self.inside.words.items in
    let place = c.args.place in
    let is : slice_index_or words (place / 64) 0 ≡ c.index.result.now = get_or_default words (place / 64) 0 c.index.result.now (omega arith) ∙ sym c.index.ensures in
    let on : is_pending words place ≡ true = (In-pending words place).0 (subst (In place) (sym c.self.view_is) there) in
    true≢false
    (sym on ∙ ap (λ w. bit_at w (63 - place % 64) == 1) is ∙ ap (λ b. b == 1) (sym (shr_and_one c.index.result.now (63 - place % 64))) ∙ clear)

-- there is no word for it
pub returns-else-at-len-clause-no : goal.returns-else-at-len-clause-no
returns-else-at-len-clause-no c beyond there =
    let has = has_word c.self.inside.words.items c.args.place (subst (In c.args.place) (sym c.self.view_is) there) in
    absurd (omega (arith, has, c.if-at-len.false, c.len.ensures))
