use Rattle.std.proofs.Common.{List, [], ◌∷◌, ◌++◌, take, ap, ◌∙◌, refl}
use Rattle.std.specs.Prelude.{ℤ}
use Rattle.std.proofs.lemmas.List.{take_more}
use Rattle.std.proofs.lemmas.Option.{slice_get_within, get_or_from_slice_get}
use Rattle.lrat_steps.specs.Given.{given_in}
use Rattle.lrat_steps.proofs.shown.Shown.show.Goals as goal

-- the next one is what stands there
pub returns-clause-shown : goal.returns-clause-shown
returns-clause-shown c _ =
    let given = given_in c.self.inside.given in
    let at = c.self.inside.count in
    let lits = c.args.lits.now in
    let stands = c.if-not-stands_at.ensures.is refl in
    take_more given at lits (slice_get_within given at lits stands)
    ∙ ap (λ (next : List ℤ). take at given ++ next ∷ []) (get_or_from_slice_get given at lits lits stands)
    ∙ ap (λ (shown : List (List ℤ)). shown ++ lits ∷ []) c.self.view_is
