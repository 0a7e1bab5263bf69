use Rattle.std.proofs.Common.{◌≡◌, ◌+◌, ◌-◌, ◌*◌, inl, inr, subst, arith}
use Rattle.std.proofs.lemmas.Bool.{cases_lt}
use Rattle.evidence_rec.specs.Columns.{IsWitnessAt}
use Rattle.evidence_rec.proofs.columns.witnesses_hold.Goals as goal

-- a witness of this part, or of one before
pub loop-part-preserved : goal.loop-part-preserved
loop-part-preserved c = λ at below lt.
    let from = c.loop-part.part * 64 in
    elim (cases_lt at from) [
      | inl before ↦ c.loop-part.invariant at (omega (arith, before)) lt
      | inr here ↦
          let place : from + (at - from) ≡ at = omega (arith, here) in
          subst (IsWitnessAt c.args.problem.now c.args.set.now c.args.witnesses.now) place
          (c.in_ok-part_holds.ensures (let no = c.if-not-branch.false in cc) (at - from) (omega (arith, here)) (omega (arith, here)))
    ]

-- the parts hold all witnesses
pub returns : goal.returns
returns c = λ _ at lt. c.loop-part.invariant at (omega arith) lt
