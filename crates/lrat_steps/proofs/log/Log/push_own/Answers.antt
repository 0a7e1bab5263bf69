use Rattle.std.proofs.Common.{◌≡◌, ℕ, ◌+◌, ◌∷◌, [], ◌++◌, List, length, ap, sym, refl, ◌∙◌, arith}
use Rattle.sat_base.specs.Derivation.{Step}
use Rattle.lrat_steps.specs.Parts.{step_with}
use Rattle.lrat_steps.specs.Layout.{step_count}
use Rattle.lrat_steps.specs.declared.log.StepRecord.{StepRecord}
use Rattle.lrat_steps.specs.declared.log.Log.TheInside.{Inside}
use Rattle.lrat_steps.specs.Log.{LogStep}
use Rattle.lrat_steps.proofs.MarkLemmas.{count_of}
use Rattle.lrat_steps.proofs.LayoutLemmas.{IsPushed, log_pushed, laid_out_pushed}
use Rattle.lrat_steps.proofs.log.Log.push_own.Goals as goal

-- no more inputs than steps, and one more step is not too many
pub overflow_add-inputs : goal.overflow_add-inputs
overflow_add-inputs c =
    let count = count_of c.self.inside c.args.self.now c.self.invariant c.self.view_is in
    let counts = c.self.invariant.counts in
    let few = c.in_ok-id.ensures.few in
    let one = c.counts_of-counts.ensures.one in
    omega arith

-- the record and the step that were added
abbrev pushed_record : goal.After-self-3-1 → StepRecord
pushed_record c = record { kind = c.parts_of-parts.result.kind; inputs = c.self.inside.inputs + c.counts_of-counts.result.0 }

abbrev pushed_step : goal.After-self-3-1 → Step
pushed_step c = record { id = c.in_ok-id.id; lits = c.parts_of-parts.result.lits.now; hints = c.parts_of-parts.result.hints.now }

abbrev new_inside : goal.After-self-3-1 → Inside
new_inside c =
    record {
      shown = c.self.inside.shown;
      records = c.push_reserved.new.self;
      steps = c.push.new.self;
      marks = c.self.inside.marks;
      inputs = c.self.inside.inputs + c.counts_of-counts.result.0;
      learned = c.self.inside.learned + c.counts_of-counts.result.1;
      live = c.self.inside.live + c.counts_of-counts.result.1;
    }

none_of : (xs : List ℕ) → length xs ≡ 0 → xs ≡ []
none_of [] e = refl
none_of (x ∷ xs) e = absurd (omega arith)

pushed : (c : goal.After-self-3-1) → IsPushed c.self.inside (new_inside c) (pushed_record c) (pushed_step c)
pushed c =
    let count : c.count.result ≡ step_count c.self.inside = c.count.ensures ∙ count_of c.self.inside c.args.self.now c.self.invariant c.self.view_is in
    record {
      shown = refl;
      records = c.push_reserved.ensures.items ∙ ap (λ (rs : List StepRecord). rs ++ pushed_record c ∷ []) c.reserve.ensures.items;
      steps = c.in_ok-push.ensures.ok;
      last = record { named = omega (arith, count, c.in_ok-id.ensures.id); no_hints = λ input. none_of c.parts_of-parts.result.hints.now (c.parts_of-parts.ensures.no_hints input) };
      counted = refl;
      inputs = ap (λ n. c.self.inside.inputs + n) c.counts_of-counts.ensures.inputs;
      learned = ap (λ n. c.self.inside.learned + n) c.counts_of-counts.ensures.learned;
      live = ap (λ n. c.self.inside.live + n) c.counts_of-counts.ensures.learned;
      marks = refl;
      few = omega (arith, count, c.in_ok-id.ensures.few);
      one = omega (arith, c.counts_of-counts.ensures.inputs, c.counts_of-counts.ensures.learned, c.counts_of-counts.ensures.one);
    }

-- the last record is of what was added, and the others are of what they were
pub invariant_of-self-2 : goal.invariant_of-self-2
invariant_of-self-2 c = laid_out_pushed c.self.inside (new_inside c) (pushed_record c) (pushed_step c) c.self.invariant (pushed c)

pub returns-clause-ok : goal.returns-clause-ok
returns-clause-ok c =
    let s = pushed_step c in
    log_pushed c.self.inside (new_inside c) (pushed_record c) s c.self.invariant (pushed c)
    ∙ ap (λ (log : List LogStep). log ++ step_with c.parts_of-parts.result.kind s.lits s.hints ∷ []) c.self.view_is
    ∙ ap (λ (t : LogStep). c.args.self.now ++ t ∷ []) (sym c.parts_of-parts.ensures.step)
