use Rattle.std.proofs.Common.{rules}
use Rattle.sat_base.proofs.derivation.DerivationBuilder.aim_at.Goals as goal

-- the goal is the new one, and no other answer is looked for
pub returns : goal.returns
returns c = search rules
