-- The steps of a derivation, its own or those of a log.
use Rattle.std.specs.Prelude.{List}
use Rattle.std.specs.Arc.{arc_value}
use Rattle.sat_base.specs.Derivation.{Step}
use Rattle.sat_base.specs.declared.derivation.Body.{Body}
use Rattle.sat_base.specs.declared.derivation.Body.TheVariants as body

abbrev pub body_steps : Body → List Step
body_steps (body.Own steps) = arc_value steps
body_steps (body.Shared cone) = arc_value cone
