use Rattle.std.proofs.Common.{rules}
use Rattle.evidence_text.specs.Reading.{refutation_at}
use Rattle.evidence_text.proofs.record.read_refutation.Goals as goal

-- version 1 has steps alone
pub returns-in-One-clause-refutation : goal.returns-in-One-clause-refutation
unfolding refutation_at
returns-in-One-clause-refutation c = search rules
