use Rattle.std.proofs.Common.{IfSome, subst}
use Rattle.evidence_rec.specs.Serving.{FindsServing}
use Rattle.evidence_text.proofs.putting.least_by.Goals as goal

-- the index has the records before this one
pub returns-in-Some : goal.returns-in-Some
returns-in-Some c = c.least_serving.ensures c.args.earlier.now (subst (λ o. IfSome o (λ i. FindsServing c.args.earlier.now c.args.set.now i.now)) c.in-Some.is c.requires.finds)
