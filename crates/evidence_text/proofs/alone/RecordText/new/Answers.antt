use Rattle.std.proofs.Common.{rules}
use Rattle.evidence_text.specs.declared.version.Version.TheVariants.{One}
use Rattle.evidence_text.proofs.AcceptedLemmas.{alone-readable}
use Rattle.evidence_text.proofs.alone.RecordText.new.Goals as goal

-- what is accepted with none before it can be written in version 1
pub returns-clause-text : goal.returns-clause-text
returns-clause-text c =
    record {
      readable = alone-readable One c.args.problem.now c.args.r.now c.requires c.record_fits.ensures;
      text_is = search rules;
    }
