use Rattle.std.proofs.Common.{◌≡◌, ◌∙◌, Some, Ok, ap, sym, refl}
use Rattle.evidence_text.specs.declared.answer.Answer.TheVariants as answer
use Rattle.evidence_text.specs.declared.offence.Offence.{Offence}
use Rattle.evidence_text.specs.Reader.{Reader}
use Rattle.evidence_text.proofs.reader.EvidenceReader.next.Goals as goal

-- the offence that was found is told again
pub returns-in-Some-clause-again : goal.returns-in-Some-clause-again
returns-in-Some-clause-again c = λ o found.
    let told : Some c.in-Some.offence ≡ Some o = sym c.in-Some.is ∙ ap (λ (r : Reader). r.offence) c.self.view_is ∙ found in
    let same : c.in-Some.offence ≡ o = cc in (
      ap (λ (x : Offence). Ok (answer.Offence x)) same,
      refl,
    )

-- where memory is wanting, the reader stands where it stood
pub returns-in-Err-Memory-clause-memory : goal.returns-in-Err-Memory-clause-memory
returns-in-Err-Memory-clause-memory c = refl
