use Rattle.std.proofs.Common.{subst}
use Rattle.std.specs.Option.{option_to_list}
use Rattle.gm_base.specs.Sets.{IsGroupSet}
use Rattle.gm_base.proofs.SetLemmas.{AscendsAbove-front}
use Rattle.gm_base.proofs.group_set.GroupSet.pop.Goals as goal

-- the front of an ascending list ascends
pub invariant_of-self : goal.invariant_of-self
invariant_of-self c = AscendsAbove-front 0 c.pop.new.self.items (option_to_list c.pop.result) (subst IsGroupSet c.pop.ensures.items c.self.invariant)
