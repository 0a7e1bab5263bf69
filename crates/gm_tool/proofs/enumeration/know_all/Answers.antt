use Rattle.std.proofs.Common.{◌≡◌, ◌∙◌, ap, sym, subst, Some}
use Rattle.std.specs.Prelude.{slice_get}
use Rattle.std.proofs.lemmas.Option.{slice_get-get_or}
use Rattle.evidence_rec.specs.Asking.{OracleState}
use Rattle.evidence_rec.specs.Records.{IsAccepted}
use Rattle.evidence_rec.proofs.AcceptedLemmas.{accepted-at}
use Rattle.gm_tool.proofs.enumeration.know_all.Goals as goal

-- each record is accepted behind some, of the oracle's problem, which stays
pub know-requires : goal.know-requires
know-requires c =
    let first = c.args.first.now in
    let found = c.found-item.result in
    let at = c.loop-found.found-index in
    let is : slice_get first at ≡ Some found = slice_get-get_or first at found c.loop-found-test.true ∙ ap Some (sym c.found-item.is) in
    let (before, here) = accepted-at c.args.oracle.now.problem first at found c.requires is in
    (before, subst (λ (o : OracleState). IsAccepted o.problem before found) (sym c.loop-found.invariant) here)
