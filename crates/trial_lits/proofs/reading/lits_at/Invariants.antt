use Rattle.sat_base.specs.Literals.{AreLiterals}
use Rattle.trial_lits.proofs.reading.lits_at.Given as goal

abbrev pub invariant-loop-number : goal.invariant-loop-number
invariant-loop-number l = AreLiterals l.vars l.lits.items
