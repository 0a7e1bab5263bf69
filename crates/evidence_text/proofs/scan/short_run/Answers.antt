use Rattle.std.proofs.Common.{◌≡◌, ◌+◌, ◌-◌, ◌*◌, ◌^◌, ◌<◌, subst, sym, arith, Some, ℕ, get_or}
use Rattle.evidence_text.specs.Scan.{IsDigit}
use Rattle.evidence_text.proofs.NumberLemmas.{digits-more, digits-fit, digit_onto-fits, digit-inner}
use Rattle.evidence_text.proofs.WordLemmas.{value-step, place-step}
use Rattle.evidence_text.proofs.scan.short_run.Goals as goal

-- 19 digits fit
pub overflow_mul-value : goal.overflow_mul-value
overflow_mul-value c =
    let k = c.loop-at.at - c.args.from in
    omega (arith, digits-fit c.loop-at.value 0 k (omega (arith, c.min-most.ensures, c.loop-at-test.true)) c.loop-at.invariant.small (omega arith))

pub overflow_add-value : goal.overflow_add-value
overflow_add-value c =
    let k = c.loop-at.at - c.args.from in
    let small : c.from.result < 10 = omega (arith, c.from.ensures, c.if-digit-gt9.false) in
    omega (arith, digits-fit c.loop-at.value c.from.result k (omega (arith, c.min-most.ensures, c.loop-at-test.true)) c.loop-at.invariant.small (omega (arith, small)))

-- a digit more
pub loop-at-preserved : goal.loop-at-preserved
loop-at-preserved c =
    let v = c.loop-at.value in
    let d = c.from.result in
    let small : d < 10 = omega (arith, c.from.ensures, c.if-digit-gt9.false) in
    let b = get_or c.args.line.now c.loop-at.at 0 in
    let is_digit : IsDigit b d = subst (IsDigit b) (sym c.from.ensures) (c.digit_of-digit.ensures (omega (arith, c.if-digit-gt9.false))) in
    let inner = digit-inner b d is_digit in
    let k = c.loop-at.at - c.args.from in
    let next : k + 1 ≡ c.loop-at.at + 1 - c.args.from = omega arith in
    let fits = digits-fit v d k (omega (arith, c.min-most.ensures, c.loop-at-test.true)) c.loop-at.invariant.small (omega (arith, small)) in
    record {
      place = place-step c.args.line.now c.args.from c.loop-at.at (omega (arith, c.min-most.ensures, c.loop-at-test.true)) inner c.loop-at.invariant.place;
      value =
          value-step c.args.line.now c.args.from c.loop-at.at (Some 0) (Some v) (Some (v * 10 + d)) (omega (arith, c.min-most.ensures, c.loop-at-test.true)) inner
          (digit_onto-fits v b d is_digit fits) c.loop-at.invariant.value;
      small = subst (λ (j : ℕ). v * 10 + d < 10 ^ j) next (digits-more v d k c.loop-at.invariant.small (omega (arith, small)));
    }
