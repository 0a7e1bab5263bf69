use Rattle.std.proofs.Common.{◌+◌, ◌^◌, ◌<◌, length, ap, arith}
use Rattle.disk_frames.specs.Frames.{piece_of}
use Rattle.disk_frames.proofs.FrameLemmas.{length-piece_of}
use Rattle.disk_frames.proofs.AppendSteps.{through_body, through_sync, through_gate, through_all, appended, both_written}
use Rattle.disk_frames.proofs.appending.append.Goals as goal

-- the closed gate stands while the frame is written behind it
pub returns-in_err-write_at-clause-any_moment : goal.returns-in_err-write_at-clause-any_moment
returns-in_err-write_at-clause-any_moment g c = λ texts settled.
    through_body _ texts c.args.text.now _ c.args.gate (g.met.D.Disk.lawful c.args.disk.now) settled c.piece.ensures _ c.write_at.ensures.writes

pub returns-in_err-sync-clause-any_moment : goal.returns-in_err-sync-clause-any_moment
returns-in_err-sync-clause-any_moment g c = λ texts settled.
    through_sync _ texts c.args.text.now _ c.args.gate (g.met.D.Disk.lawful c.args.disk.now) settled c.piece.ensures _ c.write_at.ensures.writes _ c.sync.ensures.looks

-- the whole frame stands on the disk while the gate is opened
pub returns-in_err-write_at-2-clause-any_moment : goal.returns-in_err-write_at-2-clause-any_moment
returns-in_err-write_at-2-clause-any_moment g c = λ texts settled.
    through_gate _ texts c.args.text.now _ c.args.gate (g.met.D.Disk.lawful c.args.disk.now) settled c.piece.ensures _ c.write_at.ensures.writes _ c.sync.ensures.looks
    c.in_ok-write_at.ensures.bytes c.in_ok-sync.ensures.settled _ c.write_at-2.ensures.writes

pub returns-in_err-sync-2-clause-any_moment : goal.returns-in_err-sync-2-clause-any_moment
returns-in_err-sync-2-clause-any_moment g c = λ texts settled.
    through_all _ texts c.args.text.now _ c.args.gate (g.met.D.Disk.lawful c.args.disk.now) settled c.piece.ensures _ c.write_at.ensures.writes _ c.sync.ensures.looks
    c.in_ok-write_at.ensures.bytes c.in_ok-sync.ensures.settled _ c.write_at-2.ensures.writes _ c.sync-2.ensures.looks

pub overflow_add-result : goal.overflow_add-result
overflow_add-result g c =
    let fits : c.args.gate + 1 + length (piece_of c.args.text.now) < 2 ^ 64 = omega (arith, c.in_ok-write_at.ensures.within, ap length c.piece.ensures) in
    omega (arith, length-piece_of c.args.text.now)

pub overflow_add-result-2 : goal.overflow_add-result-2
overflow_add-result-2 g c =
    let fits : c.args.gate + 1 + length (piece_of c.args.text.now) < 2 ^ 64 = omega (arith, c.in_ok-write_at.ensures.within, ap length c.piece.ensures) in
    omega (arith, length-piece_of c.args.text.now)

pub returns-clause-next : goal.returns-clause-next
returns-clause-next g c =
    let fits : c.args.gate + 1 + length (piece_of c.args.text.now) < 2 ^ 64 = omega (arith, c.in_ok-write_at.ensures.within, ap length c.piece.ensures) in
    (omega (arith), omega (arith, length-piece_of c.args.text.now))

pub returns-clause-acknowledged : goal.returns-clause-acknowledged
returns-clause-acknowledged g c = λ texts settled.
    appended _ texts c.args.text.now _ c.args.gate (g.met.D.Disk.lawful c.args.disk.now) settled c.piece.ensures _ c.write_at.ensures.writes _ c.sync.ensures.looks
    c.in_ok-write_at.ensures.bytes c.in_ok-sync.ensures.settled _ c.write_at-2.ensures.writes _ c.sync-2.ensures.looks
    c.in_ok-write_at-2.ensures.bytes c.in_ok-sync-2.ensures.settled

pub returns-clause-any_moment : goal.returns-clause-any_moment
returns-clause-any_moment g c = λ texts settled.
    through_all _ texts c.args.text.now _ c.args.gate (g.met.D.Disk.lawful c.args.disk.now) settled c.piece.ensures _ c.write_at.ensures.writes _ c.sync.ensures.looks
    c.in_ok-write_at.ensures.bytes c.in_ok-sync.ensures.settled _ c.write_at-2.ensures.writes _ c.sync-2.ensures.looks

pub returns-clause-written : goal.returns-clause-written
returns-clause-written g c = both_written _ _ _ _ _ c.args.gate _ (piece_of c.args.text.now) c.piece.ensures
    c.in_ok-write_at.ensures.bytes c.sync.ensures.looks.reads c.in_ok-write_at-2.ensures.bytes c.sync-2.ensures.looks.reads
