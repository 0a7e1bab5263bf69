use Rattle.std.proofs.Common.{◌≡◌, ◌∙◌, ℕ, inr, ap, sym, arith}
use Rattle.trail_book.specs.Trail.{top, keep}
use Rattle.trail_book.proofs.TrailLemmas.{top-keep, keep-whole}
use Rattle.propagate.proofs.EnterLemmas.{none_is_some}
use Rattle.propagate.proofs.entrance.reopen.Goals as goal

-- nothing has changed
pub returns-in-Some-clause-entries : goal.returns-in-Some-clause-entries
returns-in-Some-clause-entries c = let es = c.args.trail.now.entries in sym (keep-whole (top es) es (omega arith))

pub last_false-requires : goal.last_false-requires
last_false-requires c = λ lit i. inr (c.in_default.ensures.none lit i)

-- the clause has no literal
pub returns-in-None-clause-none : goal.returns-in-None-clause-none
returns-in-None-clause-none c =
    let es = c.args.trail.now.entries in
    let is = c.back_to.ensures.entries in
    let low = top-keep 0 es in
    ((let tops = ap top is in omega (arith, tops, low)), λ l i. absurd (none_is_some l (c.in-None.ensures.none l i)))

pub returns-in-None-clause-entries : goal.returns-in-None-clause-entries
returns-in-None-clause-entries c =
    let es = c.args.trail.now.entries in
    let is = c.back_to.ensures.entries in
    let low = top-keep 0 es in
    let zero : top c.back_to.new.trail.entries ≡ 0 = (let tops = ap top is in omega (arith, tops, low)) in
    is ∙ ap (λ (n : ℕ). keep n es) (sym zero)

pub returns-in-None-clause-kept : goal.returns-in-None-clause-kept
returns-in-None-clause-kept c = c.back_to.ensures.kept

pub returns-in-None-clause-stays : goal.returns-in-None-clause-stays
returns-in-None-clause-stays c = λ k two. absurd (none_is_some two.one (c.in-None.ensures.none two.one two.one_in))
