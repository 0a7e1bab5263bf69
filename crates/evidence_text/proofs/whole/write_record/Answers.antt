use Rattle.std.proofs.Common.{◌≡◌, ◌++◌, subst, rules}
use Rattle.std.specs.Prelude.{OnOk}
use Rattle.evidence_rec.specs.Shorten.{shortened}
use Rattle.evidence_rec.proofs.ShortenLemmas.{shortened-alone}
use Rattle.evidence_text.specs.Text.{record_text}
use Rattle.evidence_text.proofs.whole.write_record.Goals as goal

-- behind none a record stays
pub returns-clause-alone : goal.returns-clause-alone
returns-clause-alone c = λ none.
    let written : OnOk c.whole_or_none.result (c.put_record.new.waiting.items ≡ c.args.out.now.items ++ record_text (shortened c.args.earlier.now c.args.r.now)) = search rules in
    subst (λ r. OnOk c.whole_or_none.result (c.put_record.new.waiting.items ≡ c.args.out.now.items ++ record_text r)) (shortened-alone c.args.earlier.now c.args.r.now none) written
