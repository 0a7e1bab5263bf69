use Rattle.std.proofs.Common.{ap, arith}
use Rattle.std.proofs.lemmas.List.{get_or_default}
use Rattle.gm_base.specs.declared.index.Placed.{Placed}
use Rattle.gm_base.proofs.index.start_from.Goals as goal

-- what stands behind in an ascending list is of no group below
pub returns-then-index-at : goal.returns-then-index-at
returns-then-index-at c =
    let index = c.args.index.now in
    let at = c.loop-at.at in
    let none : Placed = record { group = 0; at = 0 } in
    record {
      within = omega arith;
      below = c.loop-at.invariant;
      from = λ k d past lt.
          let rise = c.requires.ascends at k d past lt in
          let same = ap (λ (p : Placed). p.group) (get_or_default index at d none (omega arith)) in
          let here = c.if-index-at.true in
          omega arith;
    }
