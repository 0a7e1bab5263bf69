use Rattle.std.proofs.Common.{◌-◌, not, false, get_or, subst}
use Rattle.model_flips.specs.Repair.{IsFalseAmong}
use Rattle.model_flips.proofs.RepairLemmas.{AreFalse-flipped}
use Rattle.model_flips.proofs.rotation.Rotation.flipped.Goals as goal

-- what was false before and what has the variable was looked at
pub returns-clause-whole : goal.returns-clause-whole
returns-clause-whole c = λ listing before.
    let p = c.args.problem.now in
    let w = c.args.repair.now.values in
    let v = c.in_ok-values.values in
    let var = c.args.var in
    AreFalse-flipped p c.args.self.now w v var (not (get_or w (var - 1) false)) c.args.repair.now.falsified.items c.add_false.new.falsified.items c.add_false-2.new.falsified.items
    c.groups-small.ensures.well_formed c.requires.not_zero c.in_ok-values.ensures
    (subst (λ ps. IsFalseAmong p v ps c.add_false.new.falsified.items) c.deref.ensures.value c.in_ok-add_false.ensures.adds) c.in_ok-add_false-2.ensures.keeps
    (subst (λ ps. IsFalseAmong p v ps c.add_false-2.new.falsified.items) c.of.ensures c.in_ok-add_false-2.ensures.adds) listing before
