use Rattle.std.proofs.Common.{◌≤◌, ℕ, arith, subst, get_or}
use Rattle.std.specs.Prelude.{All}
use Rattle.std.proofs.lemmas.List.{take_all}
use Rattle.std.proofs.lemmas.List.Elements.{All-more}
use Rattle.sat_base.specs.Derivation.{max_id}
use Rattle.trial_bases.proofs.derivations.are_ids.Goals as goal

pub loop-number-preserved : goal.loop-number-preserved
loop-number-preserved c =
    let small : get_or c.args.numbers.now c.loop-number.number-index 0 ≤ max_id = omega arith in
    All-more (λ (n : ℕ). n ≤ max_id) c.args.numbers.now c.loop-number.number-index 0 (omega arith) c.loop-number.invariant small

pub returns : goal.returns
returns c = λ _. subst (All (λ (n : ℕ). n ≤ max_id)) (take_all c.loop-number.number-index c.args.numbers.now (omega arith)) c.loop-number.invariant
