use Rattle.std.proofs.Common.{[], subst}
use Rattle.std.proofs.lemmas.Result.{err_from_is_err_and}
use Rattle.evidence_text.specs.Putting.{IsCut}
use Rattle.gm_io.specs.Writing.{IsTakenToFault}
use Rattle.gm_io.proofs.WritingLemmas.{piece-cut}
use Rattle.gm_io.proofs.evidence_file.Outlet.write_waiting.Goals as goal

-- a front part of the piece was taken
pub returns-in_err-write_piece-clause-failed : goal.returns-in_err-write_piece-clause-failed
returns-in_err-write_piece-clause-failed g c =
    let p = err_from_is_err_and c.from_residual.result c.from_residual.ensures.1 in
    let old = g.F.Files.state c.args.self.now.files.now in
    let new = g.F.Files.state c.write_piece.new.files in
    let told = c.in_err-write_piece.ensures in
    rw (p.1)
    (subst (λ piece. IsCut (IsTakenToFault old new) piece []) c.as_slice.ensures.value
    (piece-cut old new c.as_slice.result.now told.failed told.cause told.writes))
