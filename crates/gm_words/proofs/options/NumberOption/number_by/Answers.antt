use Rattle.std.proofs.Common.{rules, ◌∙◌, ap, Some}
use Rattle.gm_words.proofs.NumberLemmas.{number_by-refused, number_by-taken}
use Rattle.gm_words.proofs.options.NumberOption.number_by.Goals as goal

pub returns-in-Ok-clause-number : goal.returns-in-Ok-clause-number
returns-in-Ok-clause-number c = ap Some c.in-Ok.ensures.value.0.1
    ∙ number_by-taken c.args.self.name.now c.args.self.low c.args.self.high c.args.text.now (search rules)

pub returns-in_default-3-clause-number : goal.returns-in_default-3-clause-number
returns-in_default-3-clause-number c =
    number_by-refused c.args.self.name.now c.args.self.low c.args.self.high c.args.text.now (search rules)
