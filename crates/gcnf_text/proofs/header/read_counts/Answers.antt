use Rattle.std.proofs.Common.{[], ◌∷◌, pos, ◌∙◌}
use Rattle.std.proofs.lemmas.Result.{err_from_is_err_and}
use Rattle.token_text.specs.Kinds.{Number}
use Rattle.gcnf_text.specs.declared.form.Form.TheVariants.{Gcnf}
use Rattle.gcnf_text.specs.Table as table
use Rattle.gcnf_text.proofs.HeaderLemmas.{clauses_due, groups_due}
use Rattle.gcnf_text.proofs.StepLemmas.{leads_on}
use Rattle.gcnf_text.proofs.header.read_counts.Goals as goal

-- GCNF has two numbers, each with its limit
pub returns-in_err-clauses-in-Gcnf-clause-step : goal.returns-in_err-clauses-in-Gcnf-clause-step
returns-in_err-clauses-in-Gcnf-clause-step c = λ vars.
    let p = err_from_is_err_and c.from_residual.result c.from_residual.ensures.1 in
    rw (p.1, p.2, c.in-Gcnf.is) (c.in_err-clauses-in-Gcnf.ensures.step (table.Clauses Gcnf vars) (table.Groups vars) (clauses_due vars))

pub returns-in_err-groups-in-Gcnf-clause-step : goal.returns-in_err-groups-in-Gcnf-clause-step
returns-in_err-groups-in-Gcnf-clause-step c = λ vars.
    let clauses = c.in_ok-clauses-in-Gcnf.clauses in
    let p = err_from_is_err_and c.from_residual-in_err-groups-in-Gcnf.result c.from_residual-in_err-groups-in-Gcnf.ensures.1 in
    rw (p.1, p.2, c.in-Gcnf.is)
    ((c.in_ok-clauses-in-Gcnf.ensures.step (table.Clauses Gcnf vars) (table.Groups vars) (clauses_due vars)).offence
    ∙ c.in_err-groups-in-Gcnf.ensures.step (table.Groups vars clauses) (λ groups. table.Between Gcnf (table.behind_header vars clauses groups)) (groups_due vars clauses))

pub returns-in_ok-groups-in-Gcnf-clause-step : goal.returns-in_ok-groups-in-Gcnf-clause-step
returns-in_ok-groups-in-Gcnf-clause-step c = λ vars.
    let clauses = c.in_ok-clauses-in-Gcnf.clauses in
    let groups = c.in_ok-groups-in-Gcnf.groups in
    rw c.in-Gcnf.is
    (leads_on (table.Clauses Gcnf vars) (table.Groups vars clauses) (table.Between Gcnf (table.behind_header vars clauses groups)) (Number (pos clauses) ∷ []) (Number (pos groups) ∷ []) _ _ _
    (c.in_ok-clauses-in-Gcnf.ensures.step (table.Clauses Gcnf vars) (table.Groups vars) (clauses_due vars))
    (c.in_ok-groups-in-Gcnf.ensures.step (table.Groups vars clauses) (λ k. table.Between Gcnf (table.behind_header vars clauses k)) (groups_due vars clauses)))

-- the one number of CNF is both
pub returns-in_ok-clauses-in-Cnf-clause-step : goal.returns-in_ok-clauses-in-Cnf-clause-step
returns-in_ok-clauses-in-Cnf-clause-step c = λ vars. rw c.in-Cnf.is (c.in_ok-clauses-in-Cnf.ensures.step vars)
