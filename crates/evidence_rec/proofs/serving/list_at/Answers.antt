use Rattle.std.proofs.Common.{◌≡◌, ◌∙◌, [], ◌∷◌, ◌++◌, get_or, ap}
use Rattle.std.proofs.lemmas.List.{get_or_default, get_or-set_same, get_or-set_other}
use Rattle.evidence_rec.proofs.NumberedLemmas.{below-set, below-kept}
use Rattle.evidence_rec.proofs.serving.list_at.Goals.{In_ok-add}
use Rattle.evidence_rec.proofs.serving.list_at.Goals as goal

-- the list of the group has the place at its end
added : (c : In_ok-add) → c.add.new.self ≡ get_or c.args.lists.now.items c.args.group [] ++ c.args.number ∷ []
added c =
    let list = c.index_mut.result.now in
    c.in_ok-add.ensures.ok ∙ ap (λ l. l ++ c.args.number ∷ []) (c.index_mut.ensures.value ∙ get_or_default c.args.lists.now.items c.args.group list [] c.requires)

pub returns-clause-own : goal.returns-clause-own
returns-clause-own c = get_or-set_same c.args.lists.now.items c.args.group c.add.new.self [] c.requires ∙ added c

pub returns-clause-others : goal.returns-clause-others
returns-clause-others c = λ g other. get_or-set_other c.args.lists.now.items c.args.group g c.add.new.self [] other

-- the number is below each bound that it has to be, and so are those that stood there
pub returns-clause-below : goal.returns-clause-below
returns-clause-below c = λ bound lt below. below-set bound c.args.number c.args.group c.args.lists.now.items c.add.new.self lt below (added c)

pub returns-in_err-add-clause-below : goal.returns-in_err-add-clause-below
returns-in_err-add-clause-below c = λ bound lt below.
    below-kept bound c.args.group c.args.lists.now.items c.add.new.self below
    (c.in_err-add.ensures.err ∙ c.index_mut.ensures.value ∙ get_or_default c.args.lists.now.items c.args.group c.index_mut.result.now [] c.requires)
