use Rattle.std.proofs.Common.{◌≡◌, ◌∙◌, List, Option, Ok, ap, sym}
use Rattle.std.specs.Prelude.{is_some}
use Rattle.sat_base.specs.Derivation.{Derivation}
use Rattle.evidence_rec.specs.declared.record.Record.{Record}
use Rattle.evidence_rec.specs.Records.{founds}
use Rattle.gm_audit.specs.Refusals.{in_text, closing_refusal, ending_refusal}
use Rattle.gm_audit.proofs.auditor.Auditor.close.Goals as goal

-- without a closing part nothing is refused, and the text is not complete
pub returns-in_default-clause-refusal : goal.returns-in_default-clause-refusal
returns-in_default-clause-refusal c =
    ap (λ (o : Option Derivation). ending_refusal c.args.problem.now c.args.self.records (Ok (c.args.line, o))) (sym c.in_default.is)

pub returns-in_default-clause-records : goal.returns-in_default-clause-records
returns-in_default-clause-records c = (c.into_records-records.ensures, ap is_some (sym c.in_default.is))

-- a closing part that is refused is the refusal
pub returns-in-Some-refusal-clause-refusal : goal.returns-in-Some-refusal-clause-refusal
returns-in-Some-refusal-clause-refusal c =
    let p = c.args.problem.now in
    let kept = c.args.self.records in
    let ending : c.in_ok-refusal.refusal ≡ ending_refusal p kept (Ok (c.args.line, c.args.closing)) =
    c.in_ok-refusal.ensures
    ∙ ap (λ (rs : List Record). in_text c.args.line (closing_refusal p.groups (founds rs) c.in-Some.proof)) c.into_records-records.ensures
    ∙ ap (λ (o : Option Derivation). ending_refusal p kept (Ok (c.args.line, o))) (sym c.in-Some.is) in
    cc

-- one that is not makes the text complete
pub returns-in-None-clause-refusal : goal.returns-in-None-clause-refusal
returns-in-None-clause-refusal c =
    let p = c.args.problem.now in
    let kept = c.args.self.records in
    sym c.in-None.is ∙ c.in_ok-refusal.ensures
    ∙ ap (λ (rs : List Record). in_text c.args.line (closing_refusal p.groups (founds rs) c.in-Some.proof)) c.into_records-records.ensures
    ∙ ap (λ (o : Option Derivation). ending_refusal p kept (Ok (c.args.line, o))) (sym c.in-Some.is)

pub returns-in-None-clause-records : goal.returns-in-None-clause-records
returns-in-None-clause-records c = (c.into_records-records.ensures, ap is_some (sym c.in-Some.is))
