use Rattle.std.proofs.Common.{codes}
use Rattle.clap.specs.Words.{new_app}
use Rattle.gm_words.proofs.command.drill_command.Goals as goal

-- each step adds its rule
pub returns : goal.returns
returns c = c.with_number.ensures _ (c.with_word-command-2.ensures _ (c.with_word-command.ensures (new_app (codes "drill")) (record { is = c.new.ensures.app; local = c.new.ensures.local })))
