use Rattle.std.proofs.Common.{ap, refl, subst}
use Rattle.gm_words.specs.Requests.{text_of}
use Rattle.gm_io.specs.declared.judging.Judged.TheVariants.{Audited}
use Rattle.gm_io.specs.Beginnings.{Judges}
use Rattle.gm_io.proofs.ReadingLemmas.{stops-refused, stops-unread}
use Rattle.gm_io.proofs.beginning.judge_named.Goals as goal

-- the evidence that is named has a first refusal
pub returns-in-Audited-No-clause-stopped : goal.returns-in-Audited-No-clause-stopped
returns-in-Audited-No-clause-stopped g c = λ file focus reads.
    let p = c.args.problem in
    let old = g.F.Files.state c.args.files.now in
    let name = c.in-Some.name.now in
    let first = subst (λ answer. Judges p (old.held name) (Audited answer)) c.in-Audited-No.field-0-is c.in-Audited-No.ensures.judges in
    stops-refused p focus (text_of c.args.evidence) old (g.F.Files.state c.judge.new.files) file name
    (record { line = c.in-Audited-No.line; why = c.in-Audited-No.why }) c.refuse_evidence.result (ap text_of c.in-Some.is) first
    (c.in-Audited-No.ensures.quiet (λ e. let never : ⊥ = cc in never)) c.refuse_evidence.ensures reads

-- it could not be read
pub returns-in-Failed-clause-stopped : goal.returns-in-Failed-clause-stopped
returns-in-Failed-clause-stopped g c = λ file focus reads.
    stops-unread c.args.problem focus (text_of c.args.evidence) (g.F.Files.state c.args.files.now) (g.F.Files.state c.judge.new.files) file c.in-Some.name.now
    (ap text_of c.in-Some.is) (c.in-Failed.ensures.cause refl) reads
