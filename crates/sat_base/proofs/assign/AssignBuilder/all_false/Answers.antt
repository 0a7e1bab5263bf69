use Rattle.std.proofs.Common.{◌∙◌, ap}
use Rattle.sat_base.specs.Bits.{truths}
use Rattle.sat_base.proofs.BitLemmas.{truths-zero}
use Rattle.sat_base.proofs.assign.AssignBuilder.all_false.Goals as goal

pub returns : goal.returns
returns c = ap (truths c.args.vars) (c.in_ok-words.ensures.items_if_clones_equal (λ y same. same)) ∙ truths-zero c.args.vars _
