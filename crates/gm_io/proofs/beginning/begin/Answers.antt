use Rattle.std.proofs.lemmas.Result.{err_from_is_err_and}
use Rattle.gm_words.specs.Requests.{text_of}
use Rattle.gm_io.proofs.ReadingLemmas.{begun-result, stops-result, stops-reading, reads-behind}
use Rattle.gm_io.proofs.beginning.begin.Goals as goal

-- the file is read, so its evidence is judged
pub returns-clause-begun : goal.returns-clause-begun
returns-clause-begun g c =
    let file = c.args.name.now in
    let evidence = text_of c.args.evidence in
    let old = g.F.Files.state c.args.files.now in
    let mid = g.F.Files.state c.read_named.new.files in
    let new = g.F.Files.state c.judge_named.new.files in
    let ok = c.in_ok-problem in
    begun-result file c.args.focus evidence old mid new ok.ensures.leaves ok.ensures.quiet c.judge_named.result
    (c.judge_named.ensures.begun file c.args.focus (reads-behind file c.args.focus evidence old mid new ok.ensures.leaves ok.ensures.quiet ok.problem ok.ensures.read))

pub returns-clause-stopped : goal.returns-clause-stopped
returns-clause-stopped g c =
    let file = c.args.name.now in
    let evidence = text_of c.args.evidence in
    let old = g.F.Files.state c.args.files.now in
    let mid = g.F.Files.state c.read_named.new.files in
    let new = g.F.Files.state c.judge_named.new.files in
    let ok = c.in_ok-problem in
    stops-result file c.args.focus evidence old mid new ok.ensures.leaves ok.ensures.quiet c.judge_named.result
    (c.judge_named.ensures.stopped file c.args.focus (reads-behind file c.args.focus evidence old mid new ok.ensures.leaves ok.ensures.quiet ok.problem ok.ensures.read))

-- or it stops there
pub returns-in_err-problem-clause-stopped : goal.returns-in_err-problem-clause-stopped
returns-in_err-problem-clause-stopped g c =
    let p = err_from_is_err_and c.from_residual.result c.from_residual.ensures.1 in
    rw (p.1, p.2)
    (stops-reading c.args.name.now c.args.focus (text_of c.args.evidence) (g.F.Files.state c.args.files.now) (g.F.Files.state c.read_named.new.files) _ c.in_err-problem.ensures.stopped)
