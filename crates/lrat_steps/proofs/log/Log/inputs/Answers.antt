use Rattle.std.proofs.Common.{List, length, sym, ◌∙◌, ap}
use Rattle.std.specs.Prelude.{ℤ}
use Rattle.lrat_steps.proofs.MarkLemmas.{read}
use Rattle.lrat_steps.proofs.log.Log.inputs.Goals as goal

-- marks are no inputs
pub returns : goal.returns
returns c = c.from.ensures ∙ c.self.invariant.inputs ∙ ap (λ (cs : List (List ℤ)). length cs) (sym (read c.self.inside c.args.self.now c.self.view_is).inputs)
