use Rattle.std.proofs.Common.{◌∙◌, ap}
use Rattle.gm_base.specs.Sets.{complement}
use Rattle.gm_base.proofs.SetLemmas.{complement_twice}
use Rattle.gm_base.proofs.compact_set.CompactSet.of.Goals as goal

-- what is up to the greatest group and not lacked is the set
pub returns : goal.returns
returns c =
    let greatest = c.greatest_of-greatest.result in
    ap (complement greatest) c.in_ok-lacked.ensures
    ∙ complement_twice greatest c.args.set.now c.greatest_of-greatest.ensures.ascends c.greatest_of-greatest.ensures.within
