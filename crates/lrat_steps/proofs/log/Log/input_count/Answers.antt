use Rattle.std.proofs.Common.{length, sym, ◌∙◌, ap}
use Rattle.lrat_steps.specs.Log.{inputs_of}
use Rattle.lrat_steps.proofs.MarkLemmas.{read}
use Rattle.lrat_steps.proofs.log.Log.input_count.Goals as goal

-- the inputs are counted among the steps
pub returns : goal.returns
returns c = c.self.invariant.inputs ∙ ap (λ log. length (inputs_of log)) (sym (read c.self.inside c.args.self.now c.self.view_is).steps)
