use Rattle.std.proofs.Common.{◌≡◌, ◌∙◌, true, ap, List, ℕ, subst}
use Rattle.std.specs.Prelude.{IfSome}
use Rattle.gm_base.specs.Sets.{complement}
use Rattle.gm_base.specs.Problem.{Problem}
use Rattle.gm_base.specs.Evidence.{is_witness}
use Rattle.model_flips.proofs.flips.Flips.shown.Goals as goal

-- what was tested is the set outside of these groups
pub returns-clause-shown : goal.returns-clause-shown
returns-clause-shown c =
    let out = c.args.out.now in
    let problem = c.self-2.inside.problem in
    let same = c.self-2.view_is ∙ c.count.ensures in
    let inside = c.in_ok-inside.ensures ∙ ap (λ n. complement n out) (c.groups.ensures.count ∙ ap (λ (p : Problem). p.groups) same) in
    subst (λ (p : Problem). IfSome c.tested.result (λ w. is_witness p (complement c.args.self.now.groups out) w ≡ true)) same
    (subst (λ (s : List ℕ). IfSome c.tested.result (λ w. is_witness problem s w ≡ true)) inside c.tested.ensures)
