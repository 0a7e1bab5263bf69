use Rattle.std.proofs.Common.{◌∙◌, ap, true}
use Rattle.clap.specs.Simple.{App, app_of_fields}
use Rattle.gm_words.proofs.command.gmus_top_command.Goals as goal

pub returns : goal.returns
returns c = record {
  app = ap app_of_fields c.subcommand_required.ensures
      ∙ ap (λ f. app_of_fields (record f { subcommand_required = true })) c.no_binary_name.ensures
      ∙ ap (λ (a : App). record a { top = record a.top { no_binary_name = true; subcommand_required = true } }) c.new.ensures.app;
}
