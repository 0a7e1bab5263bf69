use Rattle.std.proofs.Common.{◌≡◌, sym, ◌∙◌, subst, inl, inr, arith}
use Rattle.std.specs.Prelude.{ℤ}
use Rattle.sat_base.specs.Members.{In}
use Rattle.sat_base.proofs.DatabaseLemmas.{get_in, In-take_more}
use Rattle.trial_lits.proofs.reading.is_among.Goals as goal

pub returns-then-eq-clause-yes : goal.returns-then-eq-clause-yes
returns-then-eq-clause-yes c = λ h.
    let here : In c.other-item.result c.args.lits.now = subst (λ (k : ℤ). In k c.args.lits.now) (sym c.other-item.is) (get_in c.args.lits.now c.loop-other.other-index c.other-item.result (omega arith)) in
    let same : c.other-item.result ≡ c.args.lit = grind arith in
    subst (λ (k : ℤ). In k c.args.lits.now) same here

pub loop-other-preserved : goal.loop-other-preserved
loop-other-preserved c =
    let differs : ¬ (c.args.lit ≡ c.other-item.result) = grind arith in
    λ i. elim (In-take_more c.args.lits.now c.loop-other.other-index c.other-item.result c.args.lit (omega arith) i) [
      | inl before ↦ c.loop-other.invariant before
      | inr same ↦ differs (same ∙ sym c.other-item.is)
    ]
