use Rattle.std.proofs.Common.{◌≡◌, List, [], ◌∷◌, ◌++◌, length, refl, ap, ◌∙◌, arith}
use Rattle.lrat_steps.specs.declared.log.StepRecord.{StepRecord}
use Rattle.lrat_steps.specs.declared.log.Log.TheInside.{Inside}
use Rattle.lrat_steps.specs.Log.{LogStep, Input}
use Rattle.lrat_steps.proofs.LayoutLemmas.{IsShown, log_shown, laid_out_shown}
use Rattle.lrat_steps.proofs.log.Log.show.Goals as goal

abbrev new_inside : goal.After-self-1 → Inside
new_inside c =
    record {
      shown = c.show.new.self;
      records = c.self.inside.records;
      steps = c.self.inside.steps;
      marks = c.self.inside.marks;
      inputs = c.len-self-inside.result;
      learned = c.self.inside.learned;
      live = c.self.inside.live;
    }

none_of : (rs : List StepRecord) → length rs ≡ 0 → rs ≡ []
none_of [] e = refl
none_of (r ∷ rs) e = absurd (omega arith)

shown : (c : goal.After-self-1) → IsShown c.self.inside (new_inside c) c.args.lits.now
shown c =
    record {
      shown = c.if-not-show.ensures.shown refl;
      none = none_of c.self.inside.records.items (omega arith);
      records = refl;
      steps = refl;
      inputs = c.len-self-inside.ensures;
      learned = refl;
      live = refl;
      marks = refl;
      few = omega arith;
    }

-- the log shows one more
pub invariant_of-self-2 : goal.invariant_of-self-2
invariant_of-self-2 c = laid_out_shown c.self.inside (new_inside c) c.args.lits.now c.self.invariant (shown c)

pub returns-clause-shown : goal.returns-clause-shown
returns-clause-shown c _ =
    log_shown c.self.inside (new_inside c) c.args.lits.now c.self.invariant (shown c) ∙ ap (λ (log : List LogStep). log ++ Input c.args.lits.now ∷ []) c.self.view_is
