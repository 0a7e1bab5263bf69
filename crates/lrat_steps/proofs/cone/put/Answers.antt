use Rattle.std.proofs.lemmas.Result.{on_ok_weaker}
use Rattle.std.proofs.Common.{◌∙◌, sym}
use Rattle.lrat_steps.proofs.ConeLemmas.{puts_derived}
use Rattle.lrat_steps.specs.Log.{steps_of}
use Rattle.lrat_steps.proofs.cone.put.Goals as goal

-- the id of a derived step is put in
pub returns : goal.returns
returns c =
    on_ok_weaker c.insert.result (puts_derived (steps_of c.args.log.now) c.args.work.now c.insert.new.self c.args.id (sym c.is_input.ensures ∙ c.if-is_input.false)) c.insert.ensures.ok
