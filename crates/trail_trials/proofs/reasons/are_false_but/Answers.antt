use Rattle.std.proofs.Common.{◌≡◌, ◌⊎◌, arith}
use Rattle.std.specs.Prelude.{ℤ, neg_ℤ}
use Rattle.sat_base.specs.Members.{In}
use Rattle.trail_book.specs.Trail.{trues, oldest}
use Rattle.trail_trials.proofs.EachLemmas.{each_more, each_all}
use Rattle.trail_trials.proofs.reasons.are_false_but.Goals as goal

pub loop-lit-preserved : goal.loop-lit-preserved
loop-lit-preserved c =
    each_more (λ (m : ℤ). (m ≡ c.args.but) ⊎ In (neg_ℤ m) (trues (oldest c.args.place c.args.trail.now.entries))) c.args.clause.now c.loop-lit.lit-index c.lit-item.result (omega arith) c.lit-item.is (c.is_false_but.ensures (grind arith)) c.loop-lit.invariant

pub returns : goal.returns
returns c = λ h. each_all (λ (m : ℤ). (m ≡ c.args.but) ⊎ In (neg_ℤ m) (trues (oldest c.args.place c.args.trail.now.entries))) c.args.clause.now c.loop-lit.lit-index (omega arith) c.loop-lit.invariant
