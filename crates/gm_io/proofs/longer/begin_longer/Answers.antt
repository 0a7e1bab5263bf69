use Rattle.std.proofs.lemmas.Result.{err_from_is_err_and}
use Rattle.gm_io.proofs.LongerLemmas.{both-read, longer-behind, read-told, stops-first, stops-longer-behind, stops-second}
use Rattle.gm_io.proofs.longer.begin_longer.Goals as goal

-- the first file could not be read
pub returns-in_err-old-clause-stopped : goal.returns-in_err-old-clause-stopped
returns-in_err-old-clause-stopped g c =
    let e = err_from_is_err_and c.from_residual.result c.from_residual.ensures.1 in
    rw (e.1, e.2)
    (stops-first c.args.file.now c.args.known.now c.args.longer.now (g.F.Files.state c.args.files.now) (g.F.Files.state c.read_named.new.files) _ c.in_err-old.ensures.stopped)

-- the second could not be read
pub returns-in_err-new-clause-stopped : goal.returns-in_err-new-clause-stopped
returns-in_err-new-clause-stopped g c =
    let first = g.F.Files.state c.args.files.now in
    let second = g.F.Files.state c.read_named.new.files in
    let e = err_from_is_err_and c.from_residual-in_err-new.result c.from_residual-in_err-new.ensures.1 in
    rw (e.1, e.2)
    (stops-second c.args.file.now c.args.known.now c.args.longer.now first second (g.F.Files.state c.read_named-2.new.files) c.in_ok-old.old _ c.in_ok-old.ensures.leaves
    c.in_ok-old.ensures.quiet (read-told (first.held c.args.file.now) c.in_ok-old.old second.unread c.in_ok-old.ensures.read) c.in_err-new.ensures.stopped)

-- both are read
pub returns-clause-begun : goal.returns-clause-begun
returns-clause-begun g c =
    let first = g.F.Files.state c.args.files.now in
    let second = g.F.Files.state c.read_named.new.files in
    let third = g.F.Files.state c.read_named-2.new.files in
    longer-behind c.args.file.now c.args.known.now c.args.longer.now first second third (g.F.Files.state c.judge_known.new.files) c.in_ok-old.ensures.leaves c.in_ok-new.ensures.leaves
    c.in_ok-old.ensures.quiet c.in_ok-new.ensures.quiet c.judge_known.result
    (c.judge_known.ensures.begun c.args.file.now c.args.longer.now
    (both-read c.args.file.now c.args.longer.now first second third c.in_ok-old.old c.in_ok-new.new c.in_ok-old.ensures.leaves c.in_ok-new.ensures.leaves c.in_ok-old.ensures.read
    c.in_ok-new.ensures.read))

pub returns-clause-stopped : goal.returns-clause-stopped
returns-clause-stopped g c =
    let first = g.F.Files.state c.args.files.now in
    let second = g.F.Files.state c.read_named.new.files in
    let third = g.F.Files.state c.read_named-2.new.files in
    stops-longer-behind c.args.file.now c.args.known.now c.args.longer.now first second third (g.F.Files.state c.judge_known.new.files) c.in_ok-old.ensures.leaves c.in_ok-new.ensures.leaves
    c.in_ok-old.ensures.quiet c.in_ok-new.ensures.quiet c.judge_known.result
    (c.judge_known.ensures.stopped c.args.file.now c.args.longer.now
    (both-read c.args.file.now c.args.longer.now first second third c.in_ok-old.old c.in_ok-new.new c.in_ok-old.ensures.leaves c.in_ok-new.ensures.leaves c.in_ok-old.ensures.read
    c.in_ok-new.ensures.read))
