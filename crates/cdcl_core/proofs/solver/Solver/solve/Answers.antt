use Rattle.std.proofs.Common.{◌∙◌, sym, subst}
use Rattle.std.proofs.lemmas.Bool.{false≢true}
use Rattle.lrat_steps.specs.Log.{inputs_of}
use Rattle.cdcl_core.specs.Answers.{IsHonestlyPaid}
use Rattle.cdcl_core.specs.Solver.{Solver}
use Rattle.cdcl_core.proofs.StateLemmas.{paid_join, touched_is}
use Rattle.cdcl_core.proofs.solver.Solver.solve.Goals as goal

-- the log is honest also where memory was wanting
pub invariant_of-self : goal.invariant_of-self
invariant_of-self c =
    let s = c.self.inside.search in
    let now = c.forget.new.search in
    record {
      honest = (c.forget.ensures.paid 0).honest;
      touched = touched_is s.true_first now.true_first s.trail.touched now.trail.touched (inputs_of s.log) (inputs_of now.log) c.forget.ensures.true_first c.forget.ensures.touched (c.forget.ensures.paid 0).paid.inputs c.self.invariant.touched;
      ready = λ no. absurd (false≢true (sym no));
    }

-- what was forgotten cost nothing
pub returns-in_err-forget-clause-paid : goal.returns-in_err-forget-clause-paid
returns-in_err-forget-clause-paid c =
    subst (λ (s : Solver). IsHonestlyPaid s.log c.forget.new.search.log c.args.purse.now.left c.args.purse.now.left) c.self.view_is (c.forget.ensures.paid c.args.purse.now.left)

pub returns-in_err-answer-clause-paid : goal.returns-in_err-answer-clause-paid
returns-in_err-answer-clause-paid c =
    subst (λ (s : Solver). IsHonestlyPaid s.log c.run.new.self.log c.args.purse.now.left c.run.new.purse.left) c.self.view_is
    (paid_join c.self.inside.search.log c.forget.new.search.log c.run.new.self.log c.args.purse.now.left c.args.purse.now.left c.run.new.purse.left (c.forget.ensures.paid c.args.purse.now.left)
    c.in_err-answer.ensures.paid)

pub returns-clause-paid : goal.returns-clause-paid
returns-clause-paid c =
    subst (λ (s : Solver). IsHonestlyPaid s.log c.run.new.self.log c.args.purse.now.left c.run.new.purse.left) c.self.view_is
    (paid_join c.self.inside.search.log c.forget.new.search.log c.run.new.self.log c.args.purse.now.left c.args.purse.now.left c.run.new.purse.left (c.forget.ensures.paid c.args.purse.now.left)
    c.in_ok-answer.ensures.paid)

-- what was forgotten is no input
pub run-requires-clause-touched : goal.run-requires-clause-touched
run-requires-clause-touched c =
    let s = c.self.inside.search in
    let now = c.forget.new.search in
    touched_is s.true_first now.true_first s.trail.touched now.trail.touched (inputs_of s.log) (inputs_of now.log) c.forget.ensures.true_first c.forget.ensures.touched (c.forget.ensures.paid 0).paid.inputs c.self.invariant.touched

pub invariant_of-self-in_err-answer : goal.invariant_of-self-in_err-answer
invariant_of-self-in_err-answer c =
    let s = c.self.inside.search in
    let now = c.run.new.self in
    record {
      honest = c.run.ensures.paid.honest;
      touched = touched_is s.true_first now.true_first s.trail.touched now.trail.touched (inputs_of s.log) (inputs_of now.log) (c.run.ensures.true_first ∙ c.forget.ensures.true_first) (c.run.ensures.touched ∙ c.forget.ensures.touched)
          (c.run.ensures.paid.paid.inputs ∙ (c.forget.ensures.paid 0).paid.inputs) c.self.invariant.touched;
      ready = λ no. absurd (false≢true (sym no));
    }

pub invariant_of-self-2 : goal.invariant_of-self-2
invariant_of-self-2 c =
    let s = c.self.inside.search in
    let now = c.run.new.self in
    record {
      honest = c.run.ensures.paid.honest;
      touched = touched_is s.true_first now.true_first s.trail.touched now.trail.touched (inputs_of s.log) (inputs_of now.log) (c.run.ensures.true_first ∙ c.forget.ensures.true_first) (c.run.ensures.touched ∙ c.forget.ensures.touched)
          (c.run.ensures.paid.paid.inputs ∙ (c.forget.ensures.paid 0).paid.inputs) c.self.invariant.touched;
      ready = λ b. c.in_ok-answer.ensures.ready;
    }
