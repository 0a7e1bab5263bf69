use Rattle.evidence_text.specs.declared.version.Version.TheVariants.{One}
use Rattle.std.proofs.Common.{refl}
use Rattle.evidence_text.proofs.AcceptedLemmas.{alone-readable}
use Rattle.evidence_text.proofs.AloneLemmas.{record-stands, record-is_read, texts-of_one}
use Rattle.evidence_text.proofs.laws.record_texts_are_read.Goals as goal

pub returns-clause-exactly : goal.returns-clause-exactly
returns-clause-exactly c = λ p text r small. (record-stands p text r small, record-is_read p text r small)

pub returns-clause-one : goal.returns-clause-one
returns-clause-one c = texts-of_one

pub returns-clause-accepted : goal.returns-clause-accepted
returns-clause-accepted c = λ p r h ids. record { readable = alone-readable One p r h ids; text_is = refl }
