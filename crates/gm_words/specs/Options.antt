-- The numbers of a command line, as clap is told of them.
use Rattle.std.specs.Prelude.{◌≡◌, false}
use Rattle.clap.specs.Walk.{Rule}
use Rattle.clap.specs.Simple.{App, app_of}
use Rattle.clap.specs.declared.builder.command.Command.{Command}
use Rattle.clap.specs.declared.builder.command.Command.TheViews.{out-Command}
use Rattle.gm_words.specs.Reading.{number_rule, placed_rule}
use Rattle.gm_words.specs.declared.options.NumberOption.{NumberOption}

abbrev pub option_rule : NumberOption → Rule
option_rule option = number_rule option.name.now option.low option.high

-- the same number as a word of its own
abbrev pub word_rule : NumberOption → Rule
word_rule option = placed_rule option.name.now option.low option.high

-- the command is `app`, and has no global argument
pub record IsLocal (app : App) (command : Command) : Type 0 where
  pub is : app_of command ≡ app
  pub local : (out-Command command).has_globals ≡ false
