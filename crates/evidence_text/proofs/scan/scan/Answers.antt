use Rattle.std.proofs.Common.{cond, None, sym, ◌∙◌, ap}
use Rattle.evidence_text.proofs.ScanLemmas.{number_in-scanned}
use Rattle.evidence_text.proofs.scan.scan.Goals as goal

pub returns-then-is_form-clause-number : goal.returns-then-is_form-clause-number
returns-then-is_form-clause-number c =
    sym (ap (λ t. cond t c.digits-end.result.1 None) c.if-is_form.true)
    ∙ number_in-scanned c.args.line.now c.args.from _ _ c.is_form.result c.digits-end.ensures.end c.digits-end.ensures.value c.is_form.ensures

pub returns-else-is_form-clause-number : goal.returns-else-is_form-clause-number
returns-else-is_form-clause-number c =
    sym (ap (λ t. cond t c.digits-end.result.1 None) c.if-is_form.false)
    ∙ number_in-scanned c.args.line.now c.args.from _ _ c.is_form.result c.digits-end.ensures.end c.digits-end.ensures.value c.is_form.ensures
