use Rattle.std.proofs.Common.{length, sym, ◌∙◌, ap}
use Rattle.sat_base.proofs.BitLemmas.{length-truths}
use Rattle.sat_base.proofs.assign.Assign.len.Goals as goal

pub returns : goal.returns
returns c = sym (length-truths c.self.inside.len _) ∙ ap length c.self.view_is
