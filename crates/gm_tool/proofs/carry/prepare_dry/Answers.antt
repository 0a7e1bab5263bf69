use Rattle.std.proofs.Common.{[], ◌∷◌, ◌++◌, ◌∙◌, ap}
use Rattle.gm_tool.proofs.CarryLemmas.{dry-left, dry-text}
use Rattle.gm_tool.proofs.carry.prepare_dry.Goals as goal

-- the report of no records, and a log alone
pub returns : goal.returns
returns c = record {
  line = c.in_ok-line.ensures;
  text = dry-text c.args.problem.now c.groups.result c.as_slice.result.now c.in_ok-text.text.items c.groups.ensures.well_formed c.groups.ensures.count (c.as_slice.ensures ∙ c.new.ensures) c.in_ok-text.ensures;
  left = dry-left c.args.log c.learned-spent.result c.push.new.self c.new.result c.new-2.result c.learned-spent.ensures (c.in_ok-push.ensures.ok ∙ ap (λ logs. logs ++ c.args.log ∷ []) c.new-logs.ensures) c.new.ensures c.new-2.ensures;
}
