use Rattle.gm_words.proofs.ReadingLemmas.{read_of_request, read_of_refusal}
use Rattle.gm_words.proofs.read.read_words.Goals as goal

pub returns-in-Ok-clause-asked : goal.returns-in-Ok-clause-asked
returns-in-Ok-clause-asked c = read_of_request _ _ c.in-Ok.matches _ c.in_ok-gmus_command.ensures.app
    c.in-Ok.ensures.kinds c.in-Ok.ensures.matches c.request_of.ensures.asked

pub returns-in-Err-clause-asked : goal.returns-in-Err-clause-asked
returns-in-Err-clause-asked c = read_of_refusal _ _ c.in-Err.error _ c.in_ok-gmus_command.ensures.app
    c.in-Err.ensures.kinds c.refused.ensures.none c.refused.ensures.wrong
