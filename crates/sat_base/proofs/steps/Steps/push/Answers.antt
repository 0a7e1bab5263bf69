use Rattle.std.proofs.Common.{◌∷◌, [], ◌++◌, List, ap, ◌∙◌, arith}
use Rattle.sat_base.specs.Derivation.{Step}
use Rattle.sat_base.specs.declared.steps.StepSpan.{StepSpan}
use Rattle.sat_base.specs.declared.steps.Steps.TheInside.{Inside}
use Rattle.sat_base.proofs.SpanLemmas.{IsPushed, steps_pushed, laid_out_pushed}
use Rattle.sat_base.proofs.steps.Steps.push.Goals as goal

-- the span that was added
abbrev span : goal.After-push_reserved → StepSpan
span c = record { id = c.args.id; lits_to = c.in_ok-lits_to.lits_to; hints_to = c.in_ok-hints_to.hints_to }

abbrev new_inside : goal.After-push_reserved → Inside
new_inside c = record { spans = c.push_reserved.new.self; lits = c.push_both.new.lits; hints = c.push_both.new.hints }

pushed : (c : goal.After-push_reserved) → IsPushed c.self.inside (new_inside c) (span c) c.args.lits.now c.args.hints.now
pushed c =
    record {
      spans = c.push_reserved.ensures.items ∙ ap (λ (ss : List StepSpan). ss ++ span c ∷ []) c.reserve.ensures.items;
      lits = c.in_ok-push_both.ensures.lits;
      hints = c.in_ok-push_both.ensures.hints;
      lits_to = omega arith;
      hints_to = omega arith;
      id = c.requires.id;
      small = c.requires.hints;
    }

-- longer arenas cut the same for the older spans, and the last span cuts what was added
pub invariant_of-self-2 : goal.invariant_of-self-2
invariant_of-self-2 c = laid_out_pushed c.self.inside (new_inside c) (span c) c.args.lits.now c.args.hints.now c.self.invariant (pushed c)

pub returns-clause-ok : goal.returns-clause-ok
returns-clause-ok c =
    steps_pushed c.self.inside (new_inside c) (span c) c.args.lits.now c.args.hints.now c.self.invariant (pushed c)
    ∙ ap (λ (steps : List Step). steps ++ record { id = c.args.id; lits = c.args.lits.now; hints = c.args.hints.now } ∷ []) c.self.view_is
