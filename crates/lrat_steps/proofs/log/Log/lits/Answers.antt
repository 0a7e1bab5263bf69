use Rattle.std.proofs.Common.{◌-◌, ◌∙◌, ap, sym, arith}
use Rattle.std.proofs.lemmas.Option.{get_or_from_slice_get}
use Rattle.sat_base.specs.Derivation.{Step}
use Rattle.sat_base.specs.Hints.{ids_of}
use Rattle.lrat_steps.specs.declared.step.StepKind.TheVariants as step_kind
use Rattle.lrat_steps.specs.declared.log.StepRecord.{StepRecord}
use Rattle.lrat_steps.specs.Log.{lits_of}
use Rattle.lrat_steps.proofs.MarkLemmas.{place_at_id, read_at, read_shown}
use Rattle.lrat_steps.proofs.log.Log.lits.Goals as goal

-- the given clause of the id
pub returns-then-id-shown : goal.returns-then-id-shown
returns-then-id-shown c =
    let lits = c.lits.result.now in
    sym (get_or_from_slice_get c.self.inside.shown (c.args.id - 1) lits lits c.lits.ensures)
    ∙ sym (ap lits_of ((read_shown c.self.inside c.args.self.now c.args.id c.self.view_is c.requires.from_one (omega arith)).step lits))

-- the others have a place among the log's own steps
pub step-requires : goal.step-requires
step-requires c =
    (place_at_id c.self.inside c.args.self.now c.args.id c.from-shown.result c.self.invariant c.self.view_is (c.from-shown.ensures ∙ c.len.ensures) (omega arith) c.requires.within).1

pub returns : goal.returns
returns c =
    let s : Step = record { id = c.step.result.id; lits = c.step.result.lits.now; hints = ids_of c.step.result.hints } in
    let none : StepRecord = record { kind = step_kind.Input; inputs = 0 } in
    sym (ap (λ (t : Step). t.lits) (get_or_from_slice_get c.self.inside.steps (c.args.id - 1 - c.from-shown.result) s s c.step.ensures))
    ∙ (read_at c.self.inside c.args.self.now c.args.id c.from-shown.result none s c.self.invariant c.self.view_is (c.from-shown.ensures ∙ c.len.ensures) (omega arith) c.requires.within).lits
