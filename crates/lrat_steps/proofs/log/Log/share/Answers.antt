use Rattle.std.proofs.Common.{◌≡◌, ◌<◌, ◌-◌, ℕ, List, [], length, get_or, Some, ap, ap₂, sym, inl, inr, ◌∙◌, arith}
use Rattle.std.specs.Prelude.{ℤ, slice_get}
use Rattle.std.proofs.lemmas.Bool.{cases_lt, false≢true}
use Rattle.std.proofs.lemmas.Option.{get_or_from_slice_get}
use Rattle.std.proofs.lemmas.Result.{IfOk-weaker}
use Rattle.sat_base.specs.Derivation.{Step}
use Rattle.lrat_steps.specs.declared.step.StepKind.TheVariants as step_kind
use Rattle.lrat_steps.specs.declared.log.StepRecord.{StepRecord}
use Rattle.lrat_steps.specs.declared.log.Log.TheInside.{Inside}
use Rattle.lrat_steps.specs.Log.{LogStep, steps_of}
use Rattle.lrat_steps.specs.Layout.{log_of}
use Rattle.lrat_steps.specs.Cone.{is_input, kept_at, lits_at, hints_at, IsDerivedId}
use Rattle.lrat_steps.proofs.MarkLemmas.{place_at_id, read_at, read_shown}
use Rattle.lrat_steps.proofs.log.Log.share.Goals as goal

step_is : (s : Step) (id : ℕ) (lits : List ℤ) (hints : List ℕ) → s.id ≡ id → s.lits ≡ lits → s.hints ≡ hints → s ≡ record { id = id; lits = lits; hints = hints }
step_is s id lits hints a b d = ap (λ (n : ℕ). record { id = n; lits = s.lits; hints = s.hints }) a ∙ ap₂ (λ (ls : List ℤ) (hs : List ℕ). record { id = id; lits = ls; hints = hs }) b d

-- a derived step is none that is shown
behind_shown : (log : Inside) (seen : List LogStep) (id : ℕ) → log_of log ≡ seen → IsDerivedId (steps_of seen) id → length log.shown < id
behind_shown log seen id is derived =
    elim (cases_lt (length log.shown) id) [
      | inl behind ↦ behind
      | inr within ↦
          let step = (read_shown log seen id is derived.from_one (omega (arith, within))).step [] in
          absurd (false≢true (sym derived.derived ∙ ap is_input step))
    ]

pub overflow_sub-id-2 : goal.overflow_sub-id-2
overflow_sub-id-2 c = let low = behind_shown c.self.inside c.args.self.now c.args.id c.self.view_is c.requires in omega arith

-- and has a place among the log's own steps
pub share-requires : goal.share-requires
share-requires c =
    let low = behind_shown c.self.inside c.args.self.now c.args.id c.self.view_is c.requires in
    (place_at_id c.self.inside c.args.self.now c.args.id c.from-shown.result c.self.invariant c.self.view_is (c.from-shown.ensures ∙ c.len.ensures) (omega arith) c.requires.within).1

pub returns : goal.returns
returns c =
    let none : StepRecord = record { kind = step_kind.Input; inputs = 0 } in
    let low = behind_shown c.self.inside c.args.self.now c.args.id c.self.view_is c.requires in
    let at = c.args.id - 1 - c.from-shown.result in
    IfOk-weaker c.share.result (λ (s : Step). slice_get c.self.inside.steps at ≡ Some s) (λ (s : Step). s ≡ kept_at (steps_of c.args.self.now) c.args.id)
    (λ s is.
    let read = read_at c.self.inside c.args.self.now c.args.id c.from-shown.result none s c.self.invariant c.self.view_is (c.from-shown.ensures ∙ c.len.ensures) (omega arith) c.requires.within in
    sym (get_or_from_slice_get c.self.inside.steps at s s is)
    ∙ step_is (get_or c.self.inside.steps at s) c.args.id (lits_at (steps_of c.args.self.now) c.args.id) (hints_at (steps_of c.args.self.now) c.args.id) read.named read.lits read.hints)
    c.share.ensures
