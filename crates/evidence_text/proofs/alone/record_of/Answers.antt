use Rattle.evidence_text.proofs.AloneLemmas.{record-tells_if_ok}
use Rattle.evidence_text.proofs.alone.record_of.Goals as goal

pub returns-clause-tells : goal.returns-clause-tells
returns-clause-tells c = record-tells_if_ok c.args.problem.now c.args.bytes.now c.read_alone.result c.problem_fits.ensures c.read_alone.ensures
