use Rattle.evidence_rec.proofs.ShortenLemmas.{least-is_least, accepted-shorten, founds-shorten, shorten-twice}
use Rattle.evidence_rec.proofs.laws.shortened_records.Goals as goal

-- each law is a lemma
pub returns : goal.returns
returns c = record { least = least-is_least; accepted = accepted-shorten; sets = founds-shorten; again = shorten-twice }
