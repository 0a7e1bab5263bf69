use Rattle.std.proofs.Common.{◌∙◌, ◌++◌, ◌∷◌, [], refl, sym}
use Rattle.std.proofs.lemmas.Bool.{not-true}
use Rattle.evidence_rec.specs.Verdicts.{refusal_by}
use Rattle.gm_audit.specs.declared.auditor.Auditor.{Auditor}
use Rattle.evidence_rec.specs.Index.{holds}
use Rattle.gm_audit.proofs.KeptLemmas.{in_text-none, passed-push}
use Rattle.gm_audit.proofs.auditor.Auditor.refusal.Goals as goal

-- nothing was refused, so the record joins the others
pub returns-clause-auditing : goal.returns-clause-auditing
returns-clause-auditing c =
    λ none.
    let old = c.args.self.now in
    let found = c.args.found.now in
    let new : Auditor = record old { checker = c.check.new.self; seen = c.add.new.self; records = old.records ++ found ∷ [] } in
    passed-push c.args.problem.now old new found c.kind.result c.in_ok-set.set c.add.new.self
    c.requires.auditing c.requires.form
    (c.in_ok-verdict.ensures.accepts.0
    (in_text-none c.args.line (refusal_by c.in_ok-verdict.verdict) (sym c.in_ok-refusal.ensures ∙ none)))
    c.kind.ensures
    (c.in_ok-set.ensures ∙ c.set.ensures)
    c.in_ok-add.ensures.ok
    (not-true (holds old.seen c.kind.result c.in_ok-set.set) (sym c.in_ok-add.ensures.new ∙ c.if-not-branch.false))
    c.check.ensures.same refl refl
