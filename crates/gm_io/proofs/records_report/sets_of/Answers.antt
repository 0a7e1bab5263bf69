use Rattle.std.proofs.Common.{◌∙◌, sym, ap₂, List, ℕ, [], ◌∷◌, ◌++◌}
use Rattle.evidence_rec.proofs.HeldLemmas.{conflict-next, correction-next}
use Rattle.gm_io.proofs.records_report.sets_of.Goals as goal
use Rattle.gm_io.proofs.records_report.sets_of.Goals.{in-Conflict+in_ok-push-in-Conflict, in-Correction+in_ok-push-in-Correction}

-- one record more has one set more of its kind
pub loop-made-preserved : goal.loop-made-preserved
loop-made-preserved c =
    let records = c.args.records.now in
    let at = c.loop-made.made-index in
    let made = c.made-item.result in
    elim c.match-kind.branch [
      | in-Conflict+in_ok-push-in-Conflict w ↦
          let (us, ms) = conflict-next records at made c.loop-made-test.true (sym c.made-item.is) (sym c.kind.ensures ∙ w.in-Conflict.is) in (
            w.conflicts-is ∙ w.in_ok-push-in-Conflict.ensures.ok ∙ ap₂ (λ (sets : List (List ℕ)) (s : List ℕ). sets ++ s ∷ []) c.loop-made.invariant.0 w.set.ensures ∙ sym us,
            w.corrections-is ∙ c.loop-made.invariant.1 ∙ sym ms,
          )
      | in-Correction+in_ok-push-in-Correction w ↦
          let (us, ms) = correction-next records at made c.loop-made-test.true (sym c.made-item.is) (sym c.kind.ensures ∙ w.in-Correction.is) in (
            w.conflicts-is ∙ c.loop-made.invariant.0 ∙ sym us,
            w.corrections-is ∙ w.in_ok-push-in-Correction.ensures.ok ∙ ap₂ (λ (sets : List (List ℕ)) (s : List ℕ). sets ++ s ∷ []) c.loop-made.invariant.1 w.set-in-Correction.ensures ∙ sym ms,
          )
    ]
