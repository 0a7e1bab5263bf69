use Rattle.std.proofs.Common.{◌∙◌, ◌≤◌, List, ℕ, length, take, sym, subst, ap}
use Rattle.size_counter.proofs.NameLemmas.{AddedTo-start, AddedTo-more, AddedTo-front}
use Rattle.size_counter.proofs.names.Names.add_all.Goals as goal

pub loop-number-init : goal.loop-number-init
loop-number-init c = AddedTo-start c.args.self.now c.args.numbers.now c.as_slice-before.ensures.distinct

-- what was there still is, in front
pub cut-requires : goal.cut-requires
cut-requires c =
    let front = AddedTo-front c.args.self.now c.args.numbers.now c.loop-number.number-index c.loop-number.self c.loop-number.invariant in
    subst (λ (xs : List ℕ). length c.as_slice-before.result.now ≤ length xs) (sym c.in-Err.ensures.err)
    (subst (λ (xs : List ℕ). length xs ≤ length c.loop-number.self) (sym c.as_slice-before.ensures.numbers) front.0)

pub returns-in-Err-clause-err : goal.returns-in-Err-clause-err
returns-in-Err-clause-err c =
    let front = AddedTo-front c.args.self.now c.args.numbers.now c.loop-number.number-index c.loop-number.self c.loop-number.invariant in
    c.cut.ensures ∙ ap (take (length c.as_slice-before.result.now)) c.in-Err.ensures.err
    ∙ ap (λ (xs : List ℕ). take (length xs) c.loop-number.self) c.as_slice-before.ensures.numbers
    ∙ front.1

pub loop-number-preserved : goal.loop-number-preserved
loop-number-preserved c =
    AddedTo-more c.args.self.now c.args.numbers.now c.loop-number.number-index c.loop-number.self c.add.new.self c.loop-number-test.true c.loop-number.invariant
    c.in-Ok.ensures.ok
