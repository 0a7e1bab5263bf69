use Rattle.std.proofs.Common.{◌≡◌, false, length, Option, Some, sym, subst, arith}
use Rattle.std.specs.Prelude.{IfOk, nat_lt}
use Rattle.std.proofs.lemmas.Bool.{cond-false, le-ltb}
use Rattle.lrat_check.specs.declared.why.Why.TheVariants.{TooLong}
use Rattle.evidence_text.specs.declared.offence.Offence.{Offence}
use Rattle.evidence_text.specs.Lines.{lines_of}
use Rattle.evidence_text.specs.Reading.{head_at, offence}
use Rattle.gm_audit.specs.Audits.{refusal_of}
use Rattle.gm_audit.specs.Refusals.{max_bytes, text_refusal}
use Rattle.gm_audit.proofs.ExactLemmas.{tells-all_of}
use Rattle.gm_audit.proofs.auditing.audit.Goals as goal

-- complete evidence shows all minimal sets
pub returns-clause-all : goal.returns-clause-all
returns-clause-all c =
    tells-all_of c.args.problem.now c.args.bytes.now c.audit_text.result c.groups-groups.ensures.well_formed c.audit_text.ensures.yes

-- a text that is not too long is refused for what stands in it
pub returns-clause-refusal : goal.returns-clause-refusal
returns-clause-refusal c =
    let p = c.args.problem.now in
    let text = c.args.bytes.now in
    let short : nat_lt max_bytes (length text) ≡ false = le-ltb max_bytes (length text) (omega arith) in
    subst (λ (r : Option Offence). IfOk c.audit_text.result (λ answer. refusal_of answer ≡ r))
    (sym (cond-false (nat_lt max_bytes (length text)) (Some (offence 0 TooLong)) (text_refusal p text (head_at p 1 (lines_of text))) short)) c.audit_text.ensures.refusal
