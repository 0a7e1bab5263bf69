use Rattle.std.proofs.Common.{◌≡◌, ◌∙◌, ◌-◌, ℕ, ap, subst, arith, Some}
use Rattle.std.specs.Prelude.{slice_get}
use Rattle.sat_base.specs.Derivation.{Step}
use Rattle.sat_base.specs.Hints.{ids_of}
use Rattle.lrat_export.specs.Export.{bared}
use Rattle.lrat_export.proofs.EntryLemmas.{lits-given, lits-step}
use Rattle.lrat_export.proofs.hints.lits_at.Goals as goal

-- a clause of the problem, without its selector
pub returns-then-place-len : goal.returns-then-place-len
returns-then-place-len c =
    ap (bared c.args.problem.now.vars) c.as_slice.ensures
    ∙ lits-given c.args.problem.now c.args.proof.now c.args.place c.clause.result.now c.clause.ensures.same c.clause.ensures.fits

pub returns-else-place-len : goal.returns-else-place-len
returns-else-place-len c =
    let s : Step = record { id = c.step.result.id; lits = c.step.result.lits.now; hints = ids_of c.step.result.hints } in
    let here = subst (λ (n : ℕ). slice_get c.args.proof.now.steps (c.args.place - n) ≡ Some s) c.len-else-place-len.ensures c.step.ensures in
    lits-step c.args.problem.now c.args.proof.now c.args.place s (omega (arith, c.len.ensures, c.if-place-len.false)) here
