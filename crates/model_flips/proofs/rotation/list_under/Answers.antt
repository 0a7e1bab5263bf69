use Rattle.std.proofs.Common.{◌≡◌, ◌∙◌, [], ◌∷◌, ◌++◌, set, ap, sym, subst}
use Rattle.std.proofs.lemmas.List.{get_or_default}
use Rattle.sat_base.specs.Members.{In}
use Rattle.model_flips.specs.Rotation.{listed}
use Rattle.model_flips.proofs.RotationLemmas.{listed-pushed, listed-kept}
use Rattle.model_flips.proofs.rotation.list_under.Goals.{In_ok-push}
use Rattle.model_flips.proofs.rotation.list_under.Goals as goal

-- the row of the variable has the place at its end
pushed : (c : In_ok-push) → c.push.new.self ≡ listed c.args.places.now.items c.args.var ++ c.args.place ∷ []
pushed c =
    let row = c.index_mut.result.now in
    c.in_ok-push.ensures.ok ∙ ap (λ r. r ++ c.args.place ∷ []) (c.index_mut.ensures.value ∙ get_or_default c.args.places.now.items c.args.var row [] c.requires)

pub returns-clause-keeps : goal.returns-clause-keeps
returns-clause-keeps c = λ v at h.
    subst (λ row. In at (listed (set c.args.places.now.items c.args.var row) v)) (sym (pushed c))
    (listed-kept c.args.places.now.items c.args.var c.args.place v at c.requires h)

pub returns-clause-lists : goal.returns-clause-lists
returns-clause-lists c =
    subst (λ row. In c.args.place (listed (set c.args.places.now.items c.args.var row) c.args.var)) (sym (pushed c))
    (listed-pushed c.args.places.now.items c.args.var c.args.place c.requires)
