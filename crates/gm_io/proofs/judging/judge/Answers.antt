use Rattle.gm_io.proofs.JudgedLemmas.{too_long, judges-audited}
use Rattle.gm_io.proofs.judging.judge.Goals as goal

-- what was read is judged as the audit says
pub returns-in-Ok-clause-judges : goal.returns-in-Ok-clause-judges
returns-in-Ok-clause-judges g c =
    judges-audited c.args.problem.now ((g.F.Files.state c.args.files.now).held c.args.name.now) _ (g.F.Files.state c.read_whole.new.files).unread
    c.in-Whole.bytes c.as_slice.result.now c.in-Ok.audited c.in-Whole.ensures.told c.as_slice.ensures.value c.in-Ok.ensures.refusal c.in-Ok.ensures.yes c.in-Ok.ensures.all

-- what is longer than the limit has that for its first refusal
pub returns-in-TooLong-clause-judges : goal.returns-in-TooLong-clause-judges
returns-in-TooLong-clause-judges g c =
    too_long c.args.problem.now ((g.F.Files.state c.args.files.now).held c.args.name.now) (g.F.Files.state c.read_whole.new.files).unread c.in-TooLong.ensures.told
