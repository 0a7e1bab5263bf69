use Rattle.std.proofs.Common.{◌≡◌, Some, Err, sym, ◌∙◌, subst}
use Rattle.gcnf_text.specs.Table.{first_offence}
use Rattle.gcnf_text.specs.Steps.{IsRead}
use Rattle.gcnf_text.proofs.AcceptedLemmas.{faultless}
use Rattle.gcnf_text.proofs.SameLemmas.{same_problem}
use Rattle.gcnf_text.proofs.reader.read_gcnf.Goals as goal

pub returns-in-Ok : goal.returns-in-Ok
returns-in-Ok c =
    record {
      reads = c.in-Ok.ensures;
      only = λ q reads. same_problem c.args.text.now c.in-Ok.problem q c.in-Ok.ensures reads;
      faultless = faultless c.args.text.now c.in-Ok.problem c.in-Ok.ensures;
    }

-- the text of a problem has no offence
pub returns-in-Err-Refused : goal.returns-in-Err-Refused
returns-in-Err-Refused c =
    let first : first_offence c.args.text.now ≡ Some c.in-Err-Refused.offence =
    subst (λ stop. IsRead c.args.text.now (Err stop)) c.in-Err-Refused.field-0-is c.in-Err-Refused.ensures in
    record {
      first = first;
      unread = λ q reads. let both = sym (faultless c.args.text.now q reads) ∙ first in cc;
    }
