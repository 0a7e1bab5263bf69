use Rattle.std.proofs.Common.{◌∙◌, arith}
use Rattle.disk_frames.proofs.FrontLemmas.{first_eight, eight_are_first}
use Rattle.disk_frames.proofs.finding.first_length.Goals as goal

pub length_of-requires-clause-bytes : goal.length_of-requires-clause-bytes
length_of-requires-clause-bytes c = first_eight c.args.bytes.now (λ i. omega (arith, c.type_inv.bytes i))

pub returns-clause-some : goal.returns-clause-some
returns-clause-some c = c.length_of.ensures ∙ eight_are_first c.args.bytes.now c.in-len8-up.len_at_least
