use Rattle.std.proofs.Common.{◌≡◌, ◌-◌, List, ◌∷◌, [], ◌++◌, ap, refl, sym, subst, ◌∙◌, arith}
use Rattle.lrat_steps.specs.declared.log.Mark.{Mark}
use Rattle.lrat_steps.specs.declared.log.Log.TheInside.{Inside}
use Rattle.lrat_steps.specs.Log.{LogStep, Forgot}
use Rattle.lrat_steps.specs.Forgetting.{IsLiveLearned, live_count}
use Rattle.lrat_steps.proofs.ForgettingLemmas.{live_count-forgot}
use Rattle.lrat_steps.proofs.MarkLemmas.{count_of}
use Rattle.lrat_steps.proofs.LayoutLemmas.{IsMarked, log_marked, laid_out_marked}
use Rattle.lrat_steps.proofs.log.Log.forget.Goals as goal

-- one learnt clause is live at least
pub overflow_sub-live : goal.overflow_sub-live
overflow_sub-live c =
    let fewer = live_count-forgot c.args.self.now c.args.id c.requires.live in
    let live : c.self.inside.live ≡ live_count c.args.self.now = c.self.invariant.live ∙ ap live_count c.self.view_is in
    omega arith

-- an id is at most the number of steps
pub overflow_cast-id : goal.overflow_cast-id
overflow_cast-id c =
    let count = count_of c.self.inside c.args.self.now c.self.invariant c.self.view_is in
    let high = c.requires.live.within in
    let few = c.self.invariant.few in
    omega arith

abbrev new_inside : goal.After-self-1 → Inside
new_inside c =
    record {
      shown = c.self.inside.shown;
      records = c.self.inside.records;
      steps = c.self.inside.steps;
      marks = c.push.new.self;
      inputs = c.self.inside.inputs;
      learned = c.self.inside.learned;
      live = c.self.inside.live - 1;
    }

abbrev mark : goal.After-self-1 → Mark
mark c = record { steps = c.count-steps.result; id = c.args.id }

marked : (c : goal.After-self-1) → IsMarked c.self.inside (new_inside c) (mark c)
marked c =
    record {
      shown = refl;
      records = refl;
      steps = refl;
      inputs = refl;
      learned = refl;
      marks = c.in_ok-push.ensures.items;
      live = refl;
      place = c.count-steps.ensures ∙ count_of c.self.inside c.args.self.now c.self.invariant c.self.view_is;
    }

pub invariant_of-self-2 : goal.invariant_of-self-2
invariant_of-self-2 c = laid_out_marked c.self.inside (new_inside c) (mark c) c.self.invariant (marked c) (subst (λ (log : List LogStep). IsLiveLearned log c.args.id) (sym c.self.view_is) c.requires.live)

pub returns-clause-ok : goal.returns-clause-ok
returns-clause-ok c =
    log_marked c.self.inside (new_inside c) (mark c) c.self.invariant (marked c) ∙ ap (λ (log : List LogStep). log ++ Forgot c.args.id ∷ []) c.self.view_is
