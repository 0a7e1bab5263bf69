use Rattle.std.proofs.Common.{◌∷◌, [], ◌++◌, List, ap, ◌∙◌}
use Rattle.sat_base.specs.Derivation.{Step}
use Rattle.sat_base.specs.declared.step_arena.Place.{Place}
use Rattle.sat_base.proofs.BlockLemmas.{steps_pushed}
use Rattle.sat_base.proofs.step_arena.StepArena.push.Goals as goal

-- what stood there stays, and the step stands behind it
pub returns-clause-ok : goal.returns-clause-ok
returns-clause-ok c =
    let s : Step = record { id = c.args.id; lits = c.args.lits.now; hints = c.args.hints.now } in
    steps_pushed c.self.inside (record { alloc = c.self.inside.alloc; blocks = c.place_step.new.blocks; places = c.push_reserved.new.self }) c.in_ok-place.place s c.self.invariant
    c.in_ok-place.ensures.ok (c.push_reserved.ensures.items ∙ ap (λ (ps : List Place). ps ++ c.in_ok-place.place ∷ []) c.reserve.ensures.items)
    ∙ ap (λ (steps : List Step). steps ++ s ∷ []) c.self.view_is
