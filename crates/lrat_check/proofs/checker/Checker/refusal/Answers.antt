use Rattle.std.proofs.Common.{◌≡◌, ◌∙◌, sym, arith}
use Rattle.std.proofs.lemmas.Grind.{common_steps}
use Rattle.sat_base.specs.Hints.{ids_of}
use Rattle.lrat_check.specs.Refusal.{step_refusal}
use Rattle.lrat_check.proofs.RefusalLemmas.{steps_follow}
use Rattle.lrat_check.proofs.checker.Checker.refusal.Goals as goal

-- nothing is refused exactly where the step may stand in a derivation
pub returns-clause-accepts : goal.returns-clause-accepts
returns-clause-accepts c =
    let s = c.args.self.now in
    let answer : c.clause_refusal-why.result ≡ step_refusal s.vars s.known c.args.id c.args.lits.now (ids_of c.args.hints) = grind (arith, common_steps) in
    let both = steps_follow s.vars s.known c.args.id c.args.lits.now (ids_of c.args.hints) in
    (λ none. both.0 (sym answer ∙ none), λ step. answer ∙ both.1 step)
