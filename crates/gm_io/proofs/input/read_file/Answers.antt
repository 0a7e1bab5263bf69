use Rattle.gm_io.specs.Input.{TellsInput}
use Rattle.gm_io.proofs.ReadingLemmas.{file-by}
use Rattle.gm_io.proofs.input.read_file.Goals as goal
use Rattle.std.proofs.Common.{List, None, Option, ℕ}

-- what is told of the file is told of it narrowed
pub returns-clause-told : goal.returns-clause-told
returns-clause-told g c =
    let unread : Option (List ℕ) = (g.F.Files.state c.read_problem.new.files).unread in
    file-by ((g.F.Files.state c.args.files.now).held c.args.name.now) (λ text. TellsInput None text unread c.in_ok-read.read)
    (λ text. TellsInput c.args.focus text unread c.in_focus.result) (λ text. c.in_focus.ensures text unread) c.in_ok-read.ensures.told
