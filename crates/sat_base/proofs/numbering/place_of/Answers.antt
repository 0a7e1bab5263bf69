use Rattle.std.proofs.Common.{◌≡◌, ◌^◌, ap, sym, ◌∙◌, rules}
use Rattle.sat_base.specs.Numbering.{place_in}
use Rattle.sat_base.proofs.PlaceLemmas.{found_at, found_none, above_all}
use Rattle.sat_base.proofs.numbering.place_of.Goals as goal

-- none is as great as what doesn't fit
pub returns-in_default-clause-place : goal.returns-in_default-clause-place
returns-in_default-clause-place c = sym (above_all c.args.ids.now c.args.id (2 ^ 32) c.requires.small (search rules))

pub returns-in-Ok-binary_search-clause-place : goal.returns-in-Ok-binary_search-clause-place
returns-in-Ok-binary_search-clause-place c =
    let same : c.in-Ok.narrow ≡ c.args.id = search rules in
    found_at c.args.ids.now c.in-Ok.narrow c.in-Ok-binary_search.at c.binary_search.result c.binary_search.ensures.position c.requires.ascends c.in-Ok-binary_search.is
    ∙ ap (place_in c.args.ids.now) same

pub returns-in-Err-clause-place : goal.returns-in-Err-clause-place
returns-in-Err-clause-place c =
    let same : c.in-Ok.narrow ≡ c.args.id = search rules in
    sym
    (ap (place_in c.args.ids.now) (sym same)
    ∙ found_none c.args.ids.now c.in-Ok.narrow c.in-Err.field-0 c.binary_search.result c.binary_search.ensures.position c.requires.ascends c.in-Err.is)
