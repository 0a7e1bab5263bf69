use Rattle.sat_base.proofs.PlaceLemmas.{found_at, found_some}
use Rattle.lrat_steps.proofs.renumber.place_of.Goals as goal

-- a member is found
pub unreachable-requires : goal.unreachable-requires
unreachable-requires c = found_some c.args.numbers.now c.args.n c.in_default.field-0 c.binary_search.result c.binary_search.ensures.position c.requires.ascends c.requires.has c.in_default.is

pub returns : goal.returns
returns c = found_at c.args.numbers.now c.args.n c.in-Ok.at c.binary_search.result c.binary_search.ensures.position c.requires.ascends c.in-Ok.is
