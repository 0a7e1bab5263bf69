use Rattle.std.proofs.Common.{sym}
use Rattle.sat_base.proofs.PlaceLemmas.{found_at, found_some}
use Rattle.edit_session.proofs.PlaceLemmas.{place_none}
use Rattle.edit_session.proofs.numbers.by_halving.Goals as goal

pub returns-in-Ok-clause-place : goal.returns-in-Ok-clause-place
returns-in-Ok-clause-place c = found_at c.args.ids.now c.args.id c.in-Ok.at c.binary_search.result c.binary_search.ensures.position c.requires c.in-Ok.is

-- no step has it
pub returns-in-Err-clause-place : goal.returns-in-Err-clause-place
returns-in-Err-clause-place c =
    sym
    (place_none c.args.ids.now c.args.id
    (λ i. found_some c.args.ids.now c.args.id c.in-Err.field-0 c.binary_search.result c.binary_search.ensures.position c.requires i c.in-Err.is))
