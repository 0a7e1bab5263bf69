use Rattle.std.proofs.Common.{◌≡◌, true, ℕ, List, Option, [], Some, subst}
use Rattle.std.specs.Prelude.{ℤ, IfOk, IfSome}
use Rattle.std.proofs.lemmas.Result.{IfOk-weaker}
use Rattle.sat_base.specs.Derivation.{clause_of}
use Rattle.sat_base.specs.Database.{known_of}
use Rattle.lrat_steps.specs.Log.{LogStep, db_of}
use Rattle.lrat_steps.specs.Trimmed.{IsTrimmed}
use Rattle.cdcl_core.specs.Answers.{IsRefuted}
use Rattle.evidence_rec.specs.Seeding.{EngineState, shows_all_explored}
use Rattle.power_map.specs.Inside.{view_of}
use Rattle.power_map.proofs.MapLemmas.{empty_derived}
use Rattle.power_map.proofs.map.PowerMapMapEngine.empty_proof.Goals as goal

-- the step that is kept has the empty clause
pub returns : goal.returns
returns c =
    let a = c.self.inside in
    let log = a.solver.log in
    let r : IsRefuted log [] c.in-Some.step =
    subst (λ (o : Option ℕ). IfSome o (λ id. IsRefuted log [] id)) c.in-Some.is c.self.invariant.kept.empty in
    subst (λ (e : EngineState). IfOk c.trim.result (λ d. shows_all_explored e.groups e.blocks d ≡ true)) c.self.view_is
    (IfOk-weaker c.trim.result
    (λ d. (lits : List ℤ) → clause_of (known_of (db_of c.log.result.now)) c.in-Some.step ≡ Some lits → IsTrimmed c.log.result.now lits d)
    (λ d. shows_all_explored (view_of a).groups (view_of a).blocks d ≡ true)
    (λ d trimmed.
    empty_derived a.solver.vars log a.sides.items a.empty c.in-Some.step d c.self.invariant.kept r
    (subst (λ (l : List LogStep). (lits : List ℤ) → clause_of (known_of (db_of l)) c.in-Some.step ≡ Some lits → IsTrimmed l lits d)
    c.log.ensures.log trimmed))
    c.trim.ensures)
