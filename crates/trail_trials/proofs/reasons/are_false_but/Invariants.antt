use Rattle.std.proofs.Common.{take}
use Rattle.sat_base.specs.Units.{AllFalseBut}
use Rattle.trail_book.specs.Trail.{trues, oldest}
use Rattle.trail_trials.proofs.reasons.are_false_but.Given as goal

abbrev pub invariant-loop-lit : goal.invariant-loop-lit
invariant-loop-lit l = AllFalseBut (trues (oldest l.place l.trail.entries)) (take l.lit-index l.clause) l.but
