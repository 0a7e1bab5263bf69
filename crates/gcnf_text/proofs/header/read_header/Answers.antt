use Rattle.std.proofs.Common.{[], ◌∷◌, pos, ◌∙◌, subst}
use Rattle.std.proofs.lemmas.Result.{err_from_is_err_and}
use Rattle.token_text.specs.Kinds.{Number}
use Rattle.gcnf_text.specs.Table as table
use Rattle.gcnf_text.specs.Steps.{Leads, count_kinds}
use Rattle.gcnf_text.proofs.HeaderLemmas.{header_parts, vars_due}
use Rattle.gcnf_text.proofs.StepLemmas.{leads_on}
use Rattle.gcnf_text.proofs.header.read_header.Goals as goal

pub returns-in_err-vars-clause-step : goal.returns-in_err-vars-clause-step
returns-in_err-vars-clause-step c =
    let form = c.in_ok-form.form in
    let p = err_from_is_err_and c.from_residual-in_err-vars.result c.from_residual-in_err-vars.ensures.1 in
    rw (p.1, p.2) (c.in_ok-form.ensures.offence ∙ c.in_err-vars.ensures.step (table.Vars form) (table.Clauses form) (vars_due form))

pub returns-in_err-clauses-clause-step : goal.returns-in_err-clauses-clause-step
returns-in_err-clauses-clause-step c =
    let form = c.in_ok-form.form in
    let p = err_from_is_err_and c.from_residual-in_err-clauses.result c.from_residual-in_err-clauses.ensures.1 in
    rw (p.1, p.2)
    (c.in_ok-form.ensures.offence ∙ (c.in_ok-vars.ensures.step (table.Vars form) (table.Clauses form) (vars_due form)).offence
    ∙ c.in_err-clauses.ensures.step c.in_ok-vars.vars)

-- the words, the greatest variable and the counts are the header
pub returns-clause-step : goal.returns-clause-step
returns-clause-step c =
    let form = c.in_ok-form.form in
    let vars = c.in_ok-vars.vars in
    let clauses = c.in_ok-clauses.clauses in
    let groups = c.in_ok-clauses.groups in
    let last = table.Between form (table.behind_header vars clauses groups) in
    let behind_vars = leads_on table.Start (table.Vars form) (table.Clauses form vars) _ (Number (pos vars) ∷ []) _ _ _ c.in_ok-form.ensures (c.in_ok-vars.ensures.step (table.Vars form) (table.Clauses form) (vars_due form)) in
    let all = leads_on table.Start (table.Clauses form vars) last _ (count_kinds form clauses groups) _ _ _ behind_vars (c.in_ok-clauses.ensures.step vars) in
    subst (λ kinds. Leads table.Start c.args.tokens.now kinds last c.read_counts.new.tokens) (header_parts form vars clauses groups) all
