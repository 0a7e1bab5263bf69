use Rattle.std.proofs.Common.{◌≡◌, ◌-◌, ◌*◌, ◌<◌, length, set, ◌∙◌, ap, arith}
use Rattle.sat_base.specs.Bits.{truths}
use Rattle.sat_base.proofs.BitLemmas.{length-truths, truths-with_truth}
use Rattle.sat_base.proofs.assign.AssignBuilder.set.Goals as goal

pub write-requires : goal.write-requires
write-requires c =
    let words = c.self.inside.words.items in
    omega (arith, length-truths c.self.inside.len words, ap length c.self.view_is, c.self.invariant, c.requires.not_zero, c.requires.in_range)

-- the bit is written, and the others stay
pub returns-clause-value : goal.returns-clause-value
returns-clause-value c =
    let words = c.self.inside.words.items in
    let at = c.args.var - 1 in
    let len_is : c.self.inside.len ≡ length c.args.self.now = omega (arith, length-truths c.self.inside.len words, ap length c.self.view_is) in
    let within : at < c.self.inside.len = omega (arith, len_is, c.requires.not_zero, c.requires.in_range) in
    let has : at < 64 * length words = omega (arith, within, c.self.invariant) in
    ap (truths c.self.inside.len) c.write.ensures
    ∙ truths-with_truth words at c.args.value has c.self.inside.len within
    ∙ ap (λ l. set l at c.args.value) c.self.view_is
