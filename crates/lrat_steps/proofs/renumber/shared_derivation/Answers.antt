use Rattle.std.proofs.Common.{◌≡◌, ℕ, List, map, ap₂, ◌∙◌}
use Rattle.std.proofs.lemmas.Result.{IfOk-weaker}
use Rattle.sat_base.specs.Derivation.{Step, Derivation}
use Rattle.sat_base.specs.Numbering.{Numbering, renumbered}
use Rattle.lrat_steps.specs.Log.{steps_of}
use Rattle.lrat_steps.specs.Cone.{trimmed}
use Rattle.lrat_steps.proofs.FirstLemmas.{shared_is}
use Rattle.lrat_steps.proofs.renumber.shared_derivation.Goals as goal

-- the steps of the log under the numbers of the cone
pub returns : goal.returns
returns c =
    let steps = steps_of c.args.log.now in
    IfOk-weaker c.of_log.result (λ (d : Derivation). d ≡ record { steps = map (renumbered c.in_ok-by.by) c.in_ok-steps.steps.items; goal = c.args.number })
    (λ (d : Derivation). d ≡ trimmed steps c.args.goal c.args.cone.now)
    (λ d is.
    is
    ∙ ap₂ (λ (ss : List Step) (n : ℕ). record { steps = ss; goal = n })
    (ap₂ (λ (by : Numbering) (ss : List Step). map (renumbered by) ss) c.in_ok-by.ensures c.in_ok-steps.ensures ∙ shared_is steps c.args.cone.now c.requires.first c.requires.backward c.requires.cone.derived)
    c.requires.number)
    c.of_log.ensures
