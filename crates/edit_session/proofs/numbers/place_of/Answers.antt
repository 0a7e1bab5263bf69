use Rattle.std.proofs.Common.{◌≡◌, get_or, sym, ◌∙◌, ap, arith}
use Rattle.sat_base.specs.Numbering.{place_in}
use Rattle.sat_base.proofs.PlaceLemmas.{place_at}
use Rattle.edit_session.proofs.numbers.place_of.Goals as goal

-- it stands at the place that is guessed
pub returns-then-ids-guess-clause-place : goal.returns-then-ids-guess-clause-place
returns-then-ids-guess-clause-place c =
    let ids = c.args.ids.now in
    let here : get_or ids c.args.guess 0 ≡ c.args.id = omega arith in
    sym (sym (ap (place_in ids) here) ∙ place_at ids c.args.guess 0 c.requires (omega arith))
